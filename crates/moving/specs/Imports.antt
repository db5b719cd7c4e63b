-- What is put into a store by the pairs of a text.
use Rattle.std.specs.Prelude.{◌≡◌, ℕ, Bool, true, false, List, [], ◌∷◌, Some, Ok, flat_map}
use Rattle.session.specs.Sessions.{Client, Goes, begun, buffers}
use Rattle.client.specs.declared.ended.Ended.TheVariants as finish
use Rattle.store.specs.Attempts.{Attempt, IsAttempt, id_in}
use Rattle.store.specs.declared.ended.Ended.{Ended}
use Rattle.store.specs.declared.ended.Ended.TheVariants as ended
use Rattle.pairs.specs.declared.pair.Pair.{Pair}

-- a session after the pairs were put, one after the other
abbrev pub HasPut : List Pair → Client → Client → Type 0
HasPut [] before after = after ≡ before
HasPut (pair ∷ pairs) before after =
    (next : Client) × (buffers (record { key = pair.key; value = Some pair.value }) before ≡ Goes next []) × HasPut pairs next after

-- A transaction of a run put these pairs, in order, and nothing else. Its end was heard: committed at a timestamp.
pub record IsPut (run : ℕ) (pairs : List Pair) : Type 0 where
  pub attempt : Attempt (Unit {0}) (Unit {0})
  pub is : IsAttempt run attempt
  pub put : HasPut pairs (begun (id_in run attempt)) attempt.left.session.client
  pub ran : attempt.ran ≡ Ok tt
  pub at : ℕ
  pub told : attempt.ended ≡ Ok (finish.Committed at)

-- all pairs of some batches
abbrev pub pairs_in : List (List Pair) → List Pair
pairs_in = flat_map (λ pairs. pairs)

-- the transaction was told as committed
abbrev pub is_committed : Ended (Unit {0}) (Unit {0}) → Bool
is_committed (ended.Committed at id value) = true
is_committed (ended.Abandoned why) = false
is_committed (ended.Aborted tries) = false
is_committed (ended.Unknown id) = false
