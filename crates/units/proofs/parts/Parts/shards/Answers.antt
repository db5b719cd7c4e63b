use Rattle.std.proofs.Common.{◌≡◌, ◌++◌, [], ◌∷◌, ◌-◌, ◌+◌, ◌/◌, ℕ, List, ap, sym, ◌∙◌, arith}
use Rattle.std.proofs.lemmas.List.{append-nil}
use Rattle.units.specs.Masks.{shards_from}
use Rattle.units.proofs.Marked.{bit_set, bit_clear}
use Rattle.units.proofs.parts.Parts.shards.Goals.{then-rest-eq1+in_ok-push, else-rest-eq1}
use Rattle.units.proofs.parts.Parts.shards.Goals as goal

pub loop-number-preserved : goal.loop-number-preserved
loop-number-preserved c =
    let n = c.loop-number.number in
    let rest = c.loop-number.rest in
    let v = c.loop-number.shards.items in
    elim c.if-rest-eq1.branch [
      | then-rest-eq1+in_ok-push w ↦
          bit_set n rest v c.if-rest-eq1.shards.items c.loop-number-test.true w.if-rest-eq1.true
          (ap (λ s. s.items) w.shards-is ∙ w.in_ok-push.ensures.items ∙ ap (λ m. v ++ m ∷ []) w.of_count.ensures)
          ∙ c.loop-number.invariant
      | else-rest-eq1 w ↦
          ap (λ s. s.items ++ shards_from (16 - (n + 1)) (n + 1) (rest / 2)) w.shards-is
          ∙ bit_clear n rest v c.loop-number-test.true w.if-rest-eq1.false
          ∙ c.loop-number.invariant
    ]

pub loop-number-init : goal.loop-number-init
loop-number-init c = ap (λ (l : List ℕ). l ++ shards_from 16 0 c.self.inside.mask) c.new-shards.ensures.items ∙ c.self.view_is

pub returns-clause-same : goal.returns-clause-same
returns-clause-same c =
    let n = c.loop-number.number in
    let items = c.loop-number.shards.items in
    let none : 16 - n ≡ 0 = omega (arith, c.loop-number-test.false) in
    sym (ap (λ k. items ++ shards_from k n c.loop-number.rest) none ∙ append-nil items) ∙ c.loop-number.invariant
