-- A lock table under requests, waits and wounds.
use Rattle.std.proofs.Common.{refl}
use Rattle.std.specs.Prelude.{ℕ, ◌≡◌, Bool, true, false, List, [], ◌∷◌, Some, None}
use Rattle.units.specs.Locks.{Claim, asked, ready}
use Rattle.units.specs.declared.lock.Asked.TheVariants.{Granted, Waits, Wounds}
use Rattle.units.specs.declared.lock.Lock.{Lock}
use Rattle.units.specs.declared.lock.Mode.TheVariants.{Shared, Exclusive}
use Rattle.protocol.specs.Computing.{computing}
use Rattle.protocol.proofs.Samples.{a, txn}

-- a transaction that holds some locks and waits for others
abbrev pub claim : ℕ → List Lock → List Lock → Bool → Claim
claim n held needs firm = record { txn = txn n; held = held; needs = needs; firm = firm }

abbrev pub shares_a : List Lock
shares_a = record { key = a; mode = Shared } ∷ []

abbrev pub owns_a : List Lock
owns_a = record { key = a; mode = Exclusive } ∷ []

-- a younger writer waits for an older reader
pub a_writer_waits_for_an_older_reader : asked (claim 1 shares_a [] false ∷ claim 3 [] [] false ∷ []) (txn 3) owns_a ≡ Waits
unfolding computing
a_writer_waits_for_an_older_reader = refl

-- a younger waiter stands in nobody's way
pub an_older_reader_passes_a_younger_waiter : asked (claim 1 shares_a [] false ∷ claim 2 [] [] false ∷ claim 3 [] owns_a false ∷ []) (txn 2) shares_a
    ≡ Granted
unfolding computing
an_older_reader_passes_a_younger_waiter = refl

-- the waiter is not ready while another holds the key, and is ready when nobody does
pub not_ready_yet : ready (claim 2 shares_a [] false ∷ claim 3 [] owns_a false ∷ []) ≡ None
unfolding computing
not_ready_yet = refl

pub ready_now : ready (claim 3 [] owns_a false ∷ []) ≡ Some (txn 3)
unfolding computing
ready_now = refl

-- an older writer wounds a younger reader
pub an_older_writer_wounds : asked (claim 1 shares_a [] false ∷ claim 2 shares_a [] false ∷ []) (txn 1) owns_a ≡ Wounds (txn 2 ∷ [])
unfolding computing
an_older_writer_wounds = refl

-- nobody wounds a firm holder
pub a_firm_holder_is_waited_for : asked (claim 1 [] [] false ∷ claim 2 owns_a [] true ∷ []) (txn 1) shares_a ≡ Waits
unfolding computing
a_firm_holder_is_waited_for = refl
