use Rattle.std.proofs.Common.{◌≡◌, ◌∙◌, ◌<◌, ◌+◌, ◌++◌, ℕ, false, true, List, get_or, length, take, drop, set, sym, ap, subst, arith}
use Rattle.std.proofs.lemmas.List.{length-set, length-take}
use Rattle.units.specs.declared.writes.Install.{Install}
use Rattle.versions.specs.Arranged.{arranged, no_install, AreWithin}
use Rattle.versions.specs.Heads.{AreHeads}
use Rattle.versions.specs.Pruned.{is_passed}
use Rattle.versions.proofs.Arranged.{length_arranged}
use Rattle.versions.proofs.Passed.{left_of, left-is-pruned, pass_over, pass_kept, pass_over_all}
use Rattle.versions.proofs.Shorter.{within_taken, arranged_taken, heads_taken, within_copied, arranged_copied, heads_copied}
use Rattle.versions.proofs.forgetting.forget.Goals as goal

pub is_passed-requires-clause-within : goal.is_passed-requires-clause-within
is_passed-requires-clause-within c = c.loop-at.invariant.within (length c.args.installs.now) c.requires.within

pub loop-at-preserved : goal.loop-at-preserved
loop-at-preserved c =
    let i = c.loop-at.invariant in
    let h = c.args.horizon in
    let installs = c.args.installs.now in
    let places = c.loop-at.places.places in
    let heads = c.loop-at.places.heads in
    let prefix = c.args.places.now.prefix in
    let t = arranged installs places in
    let at = c.loop-at.at in
    let kept = c.loop-at.kept in
    let lt : at < length places = omega (arith, c.loop-at-test.true, c.len-at-end.ensures, i.long) in
    let within : at < length t = omega (arith, lt, length_arranged installs places) in
    let stays : is_passed h (get_or t at no_install) (drop (at + 1) t) ≡ false = sym c.is_passed.ensures ∙ c.if-is_passed.false in
    let copied : arranged installs c.copy.new.self.places ≡ set t kept (get_or t at no_install) =
    ap (arranged installs) c.copy.ensures.places ∙ arranged_copied installs places at kept lt in
    record {
      behind = omega (arith, i.behind);
      within = λ known w. subst (λ (p : List ℕ). AreWithin p known) (sym c.copy.ensures.places) (within_copied places known at kept lt (i.within known w));
      long = ap length c.copy.ensures.places ∙ length-set places kept (get_or places at 0) ∙ i.long;
      heads =
          subst (λ (a : List ℕ). AreHeads prefix (arranged installs c.copy.new.self.places) a) (sym c.copy.ensures.heads)
          (subst (λ (s : List Install). AreHeads prefix s (set heads kept (get_or heads at 0))) (sym copied)
          (heads_copied prefix t heads at kept within i.heads));
      prefix = c.copy.ensures.prefix ∙ i.prefix;
      room = c.copy.ensures.room ∙ i.room;
      left =
          subst (λ (s : List Install). take (kept + 1) s ++ left_of h (drop (at + 1) s) ≡ left_of h (arranged installs c.args.places.now.places)) (sym copied)
          (pass_kept h t at kept no_install within i.behind stays ∙ i.left);
    }

pub loop-at-preserved-then-is_passed : goal.loop-at-preserved-then-is_passed
loop-at-preserved-then-is_passed c =
    let i = c.loop-at.invariant in
    let h = c.args.horizon in
    let installs = c.args.installs.now in
    let places = c.loop-at.places.places in
    let t = arranged installs places in
    let at = c.loop-at.at in
    let within : at < length t = omega (arith, c.loop-at-test.true, c.len-at-end.ensures, i.long, length_arranged installs places) in
    let passed : is_passed h (get_or t at no_install) (drop (at + 1) t) ≡ true = sym c.is_passed.ensures ∙ c.if-is_passed.true in
    record {
      behind = omega (arith, i.behind);
      within = i.within;
      long = i.long;
      heads = i.heads;
      prefix = i.prefix;
      room = i.room;
      left = ap (λ (r : List Install). take c.loop-at.kept t ++ r) (pass_over h t at no_install within passed) ∙ i.left;
    }

pub returns-clause-items : goal.returns-clause-items
returns-clause-items c =
    let i = c.loop-at.invariant in
    let installs = c.args.installs.now in
    let t = arranged installs c.loop-at.places.places in
    ap (arranged installs) c.shorten.ensures.places
    ∙ arranged_taken c.loop-at.kept installs c.loop-at.places.places
    ∙ sym (pass_over_all c.args.horizon t c.loop-at.at c.loop-at.kept
    (omega (arith, length_arranged installs c.loop-at.places.places, i.long, c.loop-at-test.false, c.len-at-end.ensures)))
    ∙ i.left ∙ left-is-pruned c.args.horizon (arranged installs c.args.places.now.places) c.requires.order

pub returns-clause-within : goal.returns-clause-within
returns-clause-within c = λ known w.
    subst (λ (p : List ℕ). AreWithin p known) (sym c.shorten.ensures.places)
    (within_taken c.loop-at.kept c.loop-at.places.places known (c.loop-at.invariant.within known w))

pub returns-clause-heads : goal.returns-clause-heads
returns-clause-heads c =
    let i = c.loop-at.invariant in
    let installs = c.args.installs.now in
    let places = c.loop-at.places.places in
    let kept = c.loop-at.kept in
    let prefix = c.args.places.now.prefix in
    let new = c.shorten.new.self in
    subst (λ (p : List ℕ). AreHeads p (arranged installs new.places) new.heads) (sym (c.shorten.ensures.prefix ∙ i.prefix))
    (subst (λ (a : List ℕ). AreHeads prefix (arranged installs new.places) a) (sym c.shorten.ensures.heads)
    (subst (λ (s : List Install). AreHeads prefix s (take kept c.loop-at.places.heads))
    (sym (ap (arranged installs) c.shorten.ensures.places ∙ arranged_taken kept installs places))
    (heads_taken kept prefix (arranged installs places) c.loop-at.places.heads i.heads)))

pub returns-clause-fewer : goal.returns-clause-fewer
returns-clause-fewer c =
    omega (arith, ap length c.shorten.ensures.places, length-take c.loop-at.kept c.loop-at.places.places, c.loop-at.invariant.long)

pub returns-clause-freed : goal.returns-clause-freed
returns-clause-freed c =
    let i = c.loop-at.invariant in
    let short = ap length c.shorten.ensures.places in
    omega (arith, short, length-take c.loop-at.kept c.loop-at.places.places, i.long, i.room, i.behind, c.shorten.ensures.room, c.len-at-end.ensures)
