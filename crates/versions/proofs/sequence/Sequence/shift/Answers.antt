use Rattle.std.proofs.Common.{◌≡◌, ◌∙◌, ◌+◌, ◌++◌, ℕ, suc, List, length, take, drop, get_or, set, sym, ap, arith}
use Rattle.std.specs.List.{insert}
use Rattle.versions.specs.declared.chunk.Spot.{Spot}
use Rattle.versions.proofs.TakenIn.{gap, gap-is, none_moved, one_moved, long_moved, all_moved}
use Rattle.versions.proofs.sequence.Sequence.shift.Goals as goal

pub loop-at-init : goal.loop-at-init
loop-at-init c = record {
  behind = omega arith;
  within = c.requires.from;
  spots = sym (none_moved c.args.from c.args.self.now.spots);
  room = omega arith;
}

pub get-next-requires : goal.get-next-requires
get-next-requires c =
    let i = c.loop-at.invariant in
    let t = c.args.self.now.spots in
    omega (
      arith,
      ap length i.spots,
      long_moved c.args.from c.loop-at.at t i.behind (omega (arith, c.loop-at-test.true, c.requires.to)),
      c.loop-at-test.true,
      c.requires.to,
    )

pub set-requires : goal.set-requires
set-requires c =
    let i = c.loop-at.invariant in
    let t = c.args.self.now.spots in
    omega (
      arith,
      ap length i.spots,
      long_moved c.args.from c.loop-at.at t i.behind (omega (arith, c.loop-at-test.true, c.requires.to)),
      c.loop-at-test.true,
      c.requires.to,
    )

pub set-requires-2 : goal.set-requires-2
set-requires-2 c =
    let i = c.loop-at.invariant in
    let t = c.args.self.now.spots in
    omega (arith, ap length i.spots, long_moved c.args.from c.loop-at.at t i.behind (omega (arith, i.within, c.requires.to)), c.requires.to)

pub loop-at-preserved : goal.loop-at-preserved
loop-at-preserved c =
    let i = c.loop-at.invariant in
    let t = c.args.self.now.spots in
    let at = c.loop-at.at in
    let from = c.args.from in
    let next : at + 1 ≡ suc at = omega arith in
    let moved = take at (gap from t) ++ drop at t in
    record {
      behind = omega (arith, i.behind);
      within = omega (arith, c.loop-at-test.true);
      spots =
          c.set.ensures.spots
          ∙ ap (set c.loop-at.self.spots at) c.get-next.ensures
          ∙ ap (λ (s : List Spot). set s at (get_or s (at + 1) c.get-next.result)) i.spots
          ∙ ap (λ (n : ℕ). set moved at (get_or moved n c.get-next.result)) next
          ∙ one_moved from at t c.get-next.result i.behind (omega (arith, c.loop-at-test.true, c.requires.to))
          ∙ ap (λ (n : ℕ). take n (gap from t) ++ drop n t) (sym next);
      room = c.set.ensures.room ∙ i.room;
    }

pub returns-clause-spots : goal.returns-clause-spots
returns-clause-spots c =
    let i = c.loop-at.invariant in
    let t = c.args.self.now.spots in
    let from = c.args.from in
    let to = c.args.to in
    let end : c.loop-at.at ≡ to = omega (arith, i.within, c.loop-at-test.false) in
    c.set-2.ensures.spots
    ∙ ap (λ (s : List Spot). set s to c.args.spot) (i.spots ∙ ap (λ (n : ℕ). take n (gap from t) ++ drop n t) end)
    ∙ all_moved from to t c.args.spot c.requires.from c.requires.to
    ∙ ap (λ (s : List Spot). insert s to c.args.spot) (sym (gap-is from t))
