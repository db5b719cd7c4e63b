use Rattle.std.specs.Prelude.{filter, option_to_list}
use Rattle.std.proofs.Common.{◌≡◌, ◌∙◌, ◌∷◌, ◌+◌, ℕ, ◌++◌, Bool, true, false, cond, List, Option, Some, None, ap, drop, map, nat_eq, refl, rules, sym}
use Rattle.std.proofs.lemmas.Bool.{eq-eqb, ne_eqb}
use Rattle.units.specs.Ids.{Id, same_id}
use Rattle.units.specs.Lists.{gather}
use Rattle.record.specs.Records.{as_committed}
use Rattle.record.specs.Whole.{Decision}
use Rattle.record.specs.declared.record.Committed.{Committed}
use Rattle.inspector.specs.declared.whole.Tally.{Tally}
use Rattle.inspector.specs.declared.whole.Tally.TheVariants.{Never, Once, Again}
use Rattle.inspector.specs.Entries.{About, log_numbered, logs_from}
use Rattle.inspector.specs.Tallies.{after, decisions_here, fits_all, with_decision}
use Rattle.inspector.proofs.Steps.{at_member, gather_step}
use Rattle.inspector.proofs.whole.tally_log.Goals as goal
use Rattle.inspector.proofs.whole.tally_log.Goals.{then-number-entry+in-Some+then-eq+in-Never+in_ok-fits-in-Never}
use Rattle.inspector.proofs.whole.tally_log.Goals.{then-number-entry+in-Some+then-eq+in_default-tally, then-number-entry+in-Some+else-eq}
use Rattle.inspector.proofs.whole.tally_log.Goals.{then-number-entry+in_default, else-number-entry}

-- the decisions of an id that stand in the log of a shard
abbrev decisions_in : Id → ℕ → List About → List Decision
decisions_in t n es = decisions_here t n (log_numbered n es)

elsewhere : (t : Id) (n : ℕ) (e : About) (es : List About) → nat_eq n e.shard ≡ false → decisions_in t n (e ∷ es) ≡ decisions_in t n es
elsewhere t n e es is_away =
    ap (λ b. decisions_here t n (map (λ x. x.item) (cond b (e ∷ filter (λ x. nat_eq n x.shard) es) (filter (λ x. nat_eq n x.shard) es)))) is_away

here : (t : Id) (n : ℕ) (e : About) (es : List About) (o : Option Committed) → nat_eq n e.shard ≡ true → as_committed e.item ≡ o
    → decisions_in t n (e ∷ es) ≡ map (λ c. record { shard = n; commit = c })
    (filter (λ c. same_id t c.txn) (option_to_list o ++ gather as_committed (log_numbered n es)))
here t n e es o is_here is =
    ap (λ b. decisions_here t n (map (λ x. x.item) (cond b (e ∷ filter (λ x. nat_eq n x.shard) es) (filter (λ x. nat_eq n x.shard) es)))) is_here
    ∙ ap (λ (cs : List Committed). map {B = Decision} (λ c. record { shard = n; commit = c }) (filter (λ c. same_id t c.txn) cs))
    (gather_step as_committed e.item (log_numbered n es) o is)

of_id : (t : Id) (n : ℕ) (e : About) (es : List About) (c : Committed) → nat_eq n e.shard ≡ true → as_committed e.item ≡ Some c → same_id t c.txn ≡ true
    → decisions_in t n (e ∷ es) ≡ record { shard = n; commit = c } ∷ decisions_in t n es
of_id t n e es c is_here is same = here t n e es (Some c) is_here is ∙ rw (same, filter) refl

of_another : (t : Id) (n : ℕ) (e : About) (es : List About) (c : Committed) → nat_eq n e.shard ≡ true → as_committed e.item ≡ Some c
    → same_id t c.txn ≡ false → decisions_in t n (e ∷ es) ≡ decisions_in t n es
of_another t n e es c is_here is other = here t n e es (Some c) is_here is ∙ rw (other, filter) refl

again : (fits : Decision → Bool) (tally : Tally) (d : Decision) → (tally ≡ Never → ⊥) → Again ≡ with_decision fits tally d
again fits Never d some = absurd (some refl)
again fits (Once b) d some = refl
again fits Again d some = refl

pub loop-entry-preserved : goal.loop-entry-preserved
loop-entry-preserved c =
    let t = c.args.txn in
    let n = c.args.number in
    let es = c.args.entries.now in
    let i = c.loop-entry.entry-index in
    let e = c.entry-item.result in
    let left = drop (i + 1) es in
    let fits = fits_all (logs_from c.args.count 0 es) t in
    let known = c.loop-entry.invariant in
    let found = λ (ds : List Decision). after fits c.loop-entry.tally ds in
    let goes_on = λ (tally : Tally). after fits tally (decisions_in t n left) in
    let next = at_member (decisions_in t n) es i e c.loop-entry-test.true c.entry-item.is in
    let shard = λ (x : About). nat_eq n x.shard in
    let decision = λ (x : About). as_committed x.item in
    let is_of_id = λ (x : Committed). same_id t x.txn in
    elim c.if-number-entry.branch [
      | then-number-entry+in-Some+then-eq+in-Never+in_ok-fits-in-Never w ↦
          let d : Decision = record { shard = n; commit = w.in-Some.decision } in
          let is_here : nat_eq n e.shard ≡ true = ap shard (sym c.entry.view_is) ∙ eq-eqb n c.entry.inside.shard w.if-number-entry.true in
          let is : as_committed e.item ≡ Some w.in-Some.decision = ap decision (sym c.entry.view_is) ∙ sym w.decision_of.ensures ∙ w.in-Some.is in
          let same : same_id t w.in-Some.decision.txn ≡ true = ap is_of_id (sym w.decision.view_is) ∙ sym w.eq.ensures ∙ w.if-eq.true in
          let tally : c.if-number-entry.tally ≡ with_decision fits c.loop-entry.tally d = search rules in
          ap goes_on tally ∙ ap found (sym (next ∙ of_id t n e left w.in-Some.decision is_here is same)) ∙ known
      | then-number-entry+in-Some+then-eq+in_default-tally w ↦
          let d : Decision = record { shard = n; commit = w.in-Some.decision } in
          let is_here : nat_eq n e.shard ≡ true = ap shard (sym c.entry.view_is) ∙ eq-eqb n c.entry.inside.shard w.if-number-entry.true in
          let is : as_committed e.item ≡ Some w.in-Some.decision = ap decision (sym c.entry.view_is) ∙ sym w.decision_of.ensures ∙ w.in-Some.is in
          let same : same_id t w.in-Some.decision.txn ≡ true = ap is_of_id (sym w.decision.view_is) ∙ sym w.eq.ensures ∙ w.if-eq.true in
          ap goes_on (w.tally-is ∙ again fits c.loop-entry.tally d w.in_default-tally.not-Never)
          ∙ ap found (sym (next ∙ of_id t n e left w.in-Some.decision is_here is same)) ∙ known
      | then-number-entry+in-Some+else-eq w ↦
          let is_here : nat_eq n e.shard ≡ true = ap shard (sym c.entry.view_is) ∙ eq-eqb n c.entry.inside.shard w.if-number-entry.true in
          let is : as_committed e.item ≡ Some w.in-Some.decision = ap decision (sym c.entry.view_is) ∙ sym w.decision_of.ensures ∙ w.in-Some.is in
          let other : same_id t w.in-Some.decision.txn ≡ false = ap is_of_id (sym w.decision.view_is) ∙ sym w.eq.ensures ∙ w.if-eq.false in
          ap goes_on w.tally-is ∙ ap found (sym (next ∙ of_another t n e left w.in-Some.decision is_here is other)) ∙ known
      | then-number-entry+in_default w ↦
          let is_here : nat_eq n e.shard ≡ true = ap shard (sym c.entry.view_is) ∙ eq-eqb n c.entry.inside.shard w.if-number-entry.true in
          let none : w.decision_of.result ≡ None = search rules in
          let is : as_committed e.item ≡ None = ap decision (sym c.entry.view_is) ∙ sym w.decision_of.ensures ∙ none in
          ap goes_on w.tally-is ∙ ap found (sym (next ∙ here t n e left None is_here is)) ∙ known
      | else-number-entry w ↦
          let is_away : nat_eq n e.shard ≡ false = ap shard (sym c.entry.view_is) ∙ ne_eqb n c.entry.inside.shard w.if-number-entry.false in
          ap goes_on w.tally-is ∙ ap found (sym (next ∙ elsewhere t n e left is_away)) ∙ known
    ]
