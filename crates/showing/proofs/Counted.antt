-- Records counted one by one.
use Rattle.std.proofs.Common.{◌≡◌, ◌++◌, ◌∷◌, ◌+◌, ◌<◌, [], ℕ, arith, List, length}
use Rattle.std.specs.Prelude.{fold}
use Rattle.std.proofs.lemmas.List.Sums.{fold-append}
use Rattle.record.specs.declared.record.Record.{Record}
use Rattle.record.specs.declared.record.Record.TheVariants.{Opened, Ceiling, Prepare, Commit, Abort, Outcome, Horizon, Base, Version, Settled, Closed, Retired}
use Rattle.showing.specs.Counting.{all_kinds, kinds_of, no_kinds, with_kind}
use Rattle.showing.specs.declared.kinds.Kinds.{Kinds}

pub kinds_more : (rs : List Record) (r : Record) → kinds_of (rs ++ r ∷ []) ≡ with_kind (kinds_of rs) r
kinds_more rs r = fold-append with_kind no_kinds rs (r ∷ [])

-- one record more is one more in all
one_more : (k : Kinds) (r : Record) → all_kinds (with_kind k r) ≡ all_kinds k + 1
one_more k (Opened epoch) = omega arith
one_more k (Ceiling at) = omega arith
one_more k (Prepare p) = omega arith
one_more k (Commit c) = omega arith
one_more k (Abort t) = omega arith
one_more k (Outcome t o) = omega arith
one_more k (Horizon at) = omega arith
one_more k (Base epoch floor horizon) = omega arith
one_more k (Version install) = omega arith
one_more k (Settled t at parts) = omega arith
one_more k (Closed t coordinator outcome) = omega arith
one_more k (Retired below) = omega arith

all_from : (k : Kinds) (rs : List Record) → all_kinds (fold with_kind k rs) ≡ all_kinds k + length rs
all_from k [] = omega arith
all_from k (r ∷ rs) =
    let rest : all_kinds (fold with_kind (with_kind k r) rs) ≡ all_kinds (with_kind k r) + length rs = all_from (with_kind k r) rs in
    let one : all_kinds (with_kind k r) ≡ all_kinds k + 1 = one_more k r in
    omega (arith, rest, one)

pub kinds_few : (rs : List Record) (limit : ℕ) → length rs < limit → all_kinds (kinds_of rs) < limit
kinds_few rs limit less = let all : all_kinds (kinds_of rs) ≡ 0 + length rs = all_from no_kinds rs in omega (arith, all, less)
