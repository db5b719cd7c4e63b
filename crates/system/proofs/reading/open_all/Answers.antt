use Rattle.std.proofs.Common.{◌≡◌, ◌∙◌, ◌+◌, [], List, ℕ, Bor, ap, arith, length, map, rules, subst, sym}
use Rattle.system.proofs.Named.{in-place, next-named, same-names}
use Rattle.std.proofs.lemmas.List.{take_all}
use Rattle.system.specs.Named.{AreNamed}
use Rattle.system.proofs.reading.open_all.Goals as goal

pub loop-path-preserved : goal.loop-path-preserved
loop-path-preserved g c =
    let none : Bor (List ℕ) = record { ref_ptr = (0, 0); now = [] } in
    let so_far = c.loop-path.invariant in
    let count : length c.push.new.self.items ≡ c.loop-path.path-index + 1 = search rules in (
      count,
      next-named (g.F.Files.is_named c.args.files.now) (λ (path : Bor (List ℕ)). path.now) c.args.paths.now c.loop-path.path-index none
          c.loop-path.opened.items c.push.new.self.items c.in_ok-open.field-0 c.loop-path-test.true c.in_ok-push.ensures.items so_far.1
          c.in_ok-open.ensures.named,
    )

pub returns-clause-named : goal.returns-clause-named
returns-clause-named g c =
    let count : length c.at_one_moment.new._logs ≡ length c.loop-path.opened.items = search rules in
    let len : length c.loop-path.opened.items ≡ c.loop-path.opened.len = search rules in
    let so_far = c.loop-path.invariant in
    let lent : c.deref_mut.result.now ≡ c.loop-path.opened.items = c.deref_mut.ensures.value in
    let names = map (λ (path : Bor (List ℕ)). path.now) c.args.paths.now in
    let named = AreNamed (g.F.Files.is_named c.args.files.now) in
    let all : named names c.loop-path.opened.items =
    subst (λ (paths : List (Bor (List ℕ))). named (map (λ (path : Bor (List ℕ)). path.now) paths) c.loop-path.opened.items)
    (take_all c.loop-path.path-index c.args.paths.now (omega (arith, c.loop-path-test.false))) so_far.1 in
    subst (named names) (sym (in-place c.at_one_moment.new._logs c.loop-path.opened.items c.loop-path.opened.len count len))
    (same-names (g.F.Files.is_named c.args.files.now) names c.deref_mut.result.now c.at_one_moment.new._logs (count ∙ ap length (sym lent))
    c.at_one_moment.ensures.named (subst (named names) (sym lent) all))
