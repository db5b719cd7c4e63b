use Rattle.std.proofs.Common.{◌≡◌, ◌++◌, ◌∙◌, ◌+◌, ◌<◌, ◌≤◌, ℕ, List, ◌∷◌, length, drop, map, ap, sym, subst, arith}
use Rattle.std.proofs.lemmas.List.{append-nil, drop_all}
use Rattle.std.specs.Option.{option_copied}
use Rattle.units.specs.declared.writes.Install.{Install}
use Rattle.record.specs.declared.record.Record.TheVariants.{Version}
use Rattle.versions.specs.Arranged.{arranged, AreWithin}
use Rattle.versions.proofs.Arranged.{length_arranged}
use Rattle.versions.proofs.Orders.{same_by}
use Rattle.versions.proofs.Passed.{left_of, left-is-pruned, no_first, one_first}
use Rattle.ledger.proofs.One.{held-in_order}
use Rattle.ledger.proofs.Renewed.{handed_none, handed_one}
use Rattle.ledger.proofs.renewing.hand_versions.Goals.{in-Some+in_ok-copy+in_ok-hand, in_default}
use Rattle.ledger.proofs.renewing.hand_versions.Goals as goal

pub loop-at-preserved : goal.loop-at-preserved
loop-at-preserved g c =
    let facts = c.args.facts.now.facts in
    let h = facts.horizon in
    let order = c.as_slice-order.result.now in
    let t = arranged facts.installs order in
    let at = c.loop-at.at in
    let taken = g.R.Recorder.records c.loop-at.recorder in
    let new = g.R.Recorder.records c.match-held.recorder in
    let before = g.R.Recorder.records c.args.recorder.now in
    let lt : at < length t = omega (arith, c.loop-at-test.true, length_arranged facts.installs order) in
    elim c.match-held.branch [
      | in-Some+in_ok-copy+in_ok-hand w ↦
          handed_one taken new (Version w.in_ok-copy.field-0) (map Version (left_of h (drop at t))) (map Version (left_of h (drop (at + 1) t)))
          (before ++ map Version (left_of h t)) (ap g.R.Recorder.records w.recorder-is ∙ w.in_ok-hand.ensures.added)
          (ap (λ (x : Install). Version x ∷ map Version (left_of h (drop (at + 1) t))) w.in_ok-copy.ensures.same
          ∙ ap (map Version) (one_first h t at w.in-Some.install.now lt (sym w.in-Some.ensures)))
          c.loop-at.invariant
      | in_default w ↦
          handed_none taken new (map Version (left_of h (drop at t))) (map Version (left_of h (drop (at + 1) t))) (before ++ map Version (left_of h t))
          (ap g.R.Recorder.records w.recorder-is) (ap (map Version) (no_first h t at lt (sym c.held.ensures ∙ ap option_copied w.in_default.is)))
          c.loop-at.invariant
    ]

pub held-requires-clause-within : goal.held-requires-clause-within
held-requires-clause-within g c =
    subst (λ (l : List ℕ). AreWithin l (length c.args.facts.now.facts.installs)) (sym (c.as_slice-order.ensures.value ∙ c.in_ok-list.ensures.places)) c.requires.orders.within

pub returns-clause-added : goal.returns-clause-added
returns-clause-added g c =
    let facts = c.args.facts.now.facts in
    let h = facts.horizon in
    let places = c.args.places.now.places in
    let t = arranged facts.installs places in
    let before = g.R.Recorder.records c.args.recorder.now in
    let after = g.R.Recorder.records c.loop-at.recorder in
    let order = c.as_slice-order.result.now in
    let is : arranged facts.installs order ≡ t = ap (arranged facts.installs) (c.as_slice-order.ensures.value ∙ c.in_ok-list.ensures.places) in
    let le : length (arranged facts.installs order) ≤ c.loop-at.at = omega (arith, c.loop-at-test.false, length_arranged facts.installs order) in
    sym (append-nil after)
    ∙ ap (λ (left : List Install). after ++ map Version (left_of h left)) (sym (drop_all c.loop-at.at (arranged facts.installs order) le))
    ∙ c.loop-at.invariant
    ∙ ap (λ (all : List Install). before ++ map Version (left_of h all)) is
    ∙ ap (λ (left : List Install). before ++ map Version left)
    (left-is-pruned h t c.requires.orders.kept.order
    ∙ held-in_order facts t c.requires.rising c.requires.orders.kept.order (same_by h facts.installs c.args.places.now c.requires.orders))
