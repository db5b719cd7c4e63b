use Rattle.std.proofs.Common.{◌≡◌, ◌+◌, ◌<◌, ◌++◌, ◌∷◌, ◌∙◌, [], ℕ, List, Bool, true, false, not, cond, nat_eq, ap, refl, sym, map, drop, length, get_or, append_assoc, arith}
use Rattle.std.proofs.lemmas.List.{append-nil, at_drop_all, at_drop_more}
use Rattle.message.specs.declared.message.Envelope.{Envelope}
use Rattle.protocol.specs.Cells.{other_parts}
use Rattle.protocol.specs.Outputs.{outcome_to}
use Rattle.memory.proofs.planning.tell_others.Goals as goal
use Rattle.memory.proofs.planning.tell_others.Goals.{then-ne+in_ok-push, else-ne}

-- the next shard is told where it is another one
by_other : (f : ℕ → Envelope) (n : ℕ) (rest : List ℕ) (out : List Envelope) (b other : Bool) → other ≡ b
    → cond b (out ++ f n ∷ []) out ++ map f rest ≡ out ++ map f (cond other (n ∷ rest) rest)
by_other f n rest out b other e = turned b ∙ ap (λ (a : Bool). out ++ map f (cond a (n ∷ rest) rest)) (sym e)
  where
    turned : (a : Bool) → cond a (out ++ f n ∷ []) out ++ map f rest ≡ out ++ map f (cond a (n ∷ rest) rest)
    turned true = append_assoc out (f n ∷ []) (map f rest)
    turned false = refl

told_more : (f : ℕ → Envelope) (from : ℕ) (ns : List ℕ) (i n : ℕ) (out : List Envelope) (b : Bool) → i < length ns → n ≡ get_or ns i n
    → not (nat_eq n from) ≡ b
    → cond b (out ++ f n ∷ []) out ++ map f (other_parts from (drop (i + 1) ns)) ≡ out ++ map f (other_parts from (drop i ns))
told_more f from ns i n out b lt here e =
    by_other f n (other_parts from (drop (i + 1) ns)) out b (not (nat_eq n from)) e
    ∙ ap (λ (m : ℕ). out ++ map f (other_parts from (m ∷ drop (i + 1) ns))) here
    ∙ sym (at_drop_more (λ (ms : List ℕ). out ++ map f (other_parts from ms)) ns i n lt)

pub loop-shard-preserved : goal.loop-shard-preserved
loop-shard-preserved c =
    let told = c.args.told.now in
    let f : ℕ → Envelope = outcome_to told.from told.txn told.outcome in
    let ns = c.as_slice-shard-items.result.now in
    let i = c.loop-shard.shard-index in
    let out = c.loop-shard.out.items in
    let rest = map f (other_parts told.from (drop (i + 1) ns)) in
    elim c.if-ne.branch [
      | then-ne+in_ok-push w ↦
          ap (λ (es : List Envelope). es ++ rest)
          (ap (λ v. v.items) w.out-is ∙ w.in_ok-push.ensures.items ∙ ap (λ (e : Envelope). out ++ e ∷ []) w.outcome_to.ensures)
          ∙ told_more f told.from ns i c.shard-item.result out true c.loop-shard-test.true c.shard-item.is (sym c.ne.ensures ∙ w.if-ne.true)
          ∙ c.loop-shard.invariant
      | else-ne w ↦
          ap (λ (es : List Envelope). es ++ rest) (ap (λ v. v.items) w.out-is)
          ∙ told_more f told.from ns i c.shard-item.result out false c.loop-shard-test.true c.shard-item.is (sym c.ne.ensures ∙ w.if-ne.false)
          ∙ c.loop-shard.invariant
    ]

pub returns-clause-told : goal.returns-clause-told
returns-clause-told c =
    let told = c.args.told.now in
    let f : ℕ → Envelope = outcome_to told.from told.txn told.outcome in
    let ns = c.as_slice-shard-items.result.now in
    let out = c.loop-shard.out.items in
    sym (append-nil out)
    ∙ sym (at_drop_all (λ (ms : List ℕ). out ++ map f (other_parts told.from ms)) ns c.loop-shard.shard-index (omega arith))
    ∙ c.loop-shard.invariant
    ∙ ap (λ (ms : List ℕ). c.args.out.now.items ++ map f (other_parts told.from ms)) (c.as_slice-shard-items.ensures.value ∙ c.in_ok-shards.ensures.same)
