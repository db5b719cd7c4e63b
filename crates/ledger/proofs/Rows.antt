-- Worked rows of renewed logs, of horizons, and of what may stand in a log, computed.
use Rattle.std.proofs.Common.{refl}
use Rattle.std.specs.Prelude.{◌≡◌, ℕ, Bool, true, false, ◌&&◌, List, [], ◌∷◌, ◌++◌, Some, None}
use Rattle.units.specs.Keys.{Bytes}
use Rattle.record.specs.Accepted.{begins, follows}
use Rattle.record.specs.FactLaws.{learnt}
use Rattle.record.specs.Facts.{no_facts, facts_of}
use Rattle.record.specs.Whole.{is_whole, stands_at}
use Rattle.record.specs.declared.record.Record.{Record}
use Rattle.record.specs.declared.record.Record.TheVariants.{Base, Version, Settled, Closed}
use Rattle.facts.specs.Rules.{follows_facts}
use Rattle.versions.specs.Pruned.{pruned}
use Rattle.protocol.specs.Computing.{computing}
use Rattle.protocol.proofs.Samples.{a, m, z, one, two, txn, sets, shard}
use Rattle.ledger.specs.Turned.{turned}
use Rattle.ledger.specs.Rules.{takes}

-- short names: an opening, a version
abbrev opened : ℕ → Record
opened epoch = Record.Opened epoch

abbrev version : Bytes → ℕ → Bytes → Record
version k at v = Version (record { key = k; at = at; value = Some v })

-- ---- one commit, settled

settled : List Record
settled =
    opened 1
    ∷ (Record.Commit (record { txn = txn 1; at = 111; parts = 0 ∷ []; reads = []; writes = sets a one ∷ [] }))
    ∷ (Record.Outcome (txn 1) (Some 111))
    ∷ []

-- its renewed log
renewed : List Record
renewed = Base 1 111 0 ∷ version a 111 one ∷ Settled (txn 1) 111 (0 ∷ []) ∷ []

settled-turned : turned (facts_of settled) ≡ renewed
unfolding computing settled renewed turned pruned
settled-turned = refl

-- read from the set of its records, and learnt one by one, it says the same
renewed-says : facts_of renewed ≡ learnt no_facts renewed
unfolding computing renewed
renewed-says = refl

-- and with an opening behind it, one above the epoch of its base
renewed-opened : facts_of (renewed ++ opened 2 ∷ []) ≡ learnt no_facts (renewed ++ opened 2 ∷ [])
unfolding computing renewed
renewed-opened = refl

renewed-again : turned (facts_of renewed) ≡ renewed
unfolding computing renewed turned pruned
renewed-again = refl

opened-again : turned (facts_of (renewed ++ opened 2 ∷ [])) ≡ Base 2 111 0 ∷ version a 111 one ∷ Settled (txn 1) 111 (0 ∷ []) ∷ []
unfolding computing renewed turned pruned
opened-again = refl

-- the transaction stands where it stood, and is whole
renewed-stands : stands_at (renewed ∷ []) renewed (txn 1) ≡ Some 111
unfolding computing renewed
renewed-stands = refl

renewed-whole : is_whole (txn 1) (renewed ∷ []) ≡ true
unfolding computing renewed
renewed-whole = refl

-- ---- an abort, a promise that stands, one that was closed, over two shards

here : List Record
here =
    opened 1
    ∷ (Record.Abort (txn 9))
    ∷ (Record.Commit (record { txn = txn 2; at = 200; parts = 0 ∷ 1 ∷ []; reads = []; writes = sets a two ∷ [] }))
    ∷ (Record.Outcome (txn 2) (Some 200))
    ∷ []

there : List Record
there =
    opened 1
    ∷ (Record.Prepare (record { txn = txn 2; coordinator = 0; at = 190; reads = []; writes = sets z two ∷ [] }))
    ∷ (Record.Outcome (txn 2) (Some 200))
    ∷ (Record.Prepare (record { txn = txn 3; coordinator = 0; at = 210; reads = m ∷ []; writes = [] }))
    ∷ []

there-turned : turned (facts_of there)
    ≡ Base 1 210 0 ∷ version z 200 two ∷ Closed (txn 2) 0 (Some 200)
    ∷ (Record.Prepare (record { txn = txn 3; coordinator = 0; at = 210; reads = m ∷ []; writes = [] })) ∷ []
unfolding computing there turned pruned
there-turned = refl

here-turned : turned (facts_of here) ≡ Base 1 200 0 ∷ version a 200 two ∷ Settled (txn 2) 200 (0 ∷ 1 ∷ []) ∷ (Record.Abort (txn 9)) ∷ []
unfolding computing here turned pruned
here-turned = refl

-- whole as before
both-whole : is_whole (txn 2) (turned (facts_of here) ∷ turned (facts_of there) ∷ []) ≡ true
unfolding computing here there turned pruned
both-whole = refl

-- the one that stands resolves as before
three-stands : stands_at (turned (facts_of here) ∷ turned (facts_of there) ∷ []) (turned (facts_of there)) (txn 3) ≡ None
unfolding computing here there turned pruned
three-stands = refl

-- a promise that was refused is closed without a timestamp
refused : List Record
refused =
    opened 1
    ∷ (Record.Prepare (record { txn = txn 5; coordinator = 0; at = 120; reads = []; writes = sets z one ∷ [] }))
    ∷ (Record.Outcome (txn 5) None)
    ∷ []

refused-turned : turned (facts_of refused) ≡ Base 1 120 0 ∷ Closed (txn 5) 0 None ∷ []
unfolding computing refused turned pruned
refused-turned = refl

refused-says : facts_of (turned (facts_of refused)) ≡ facts_of refused
unfolding computing refused turned pruned
refused-says = refl

-- a decision that stands is kept by its record, behind who ended, though its id is older
decided : List Record
decided =
    opened 1
    ∷ (Record.Commit (record { txn = txn 6; at = 130; parts = 0 ∷ []; reads = []; writes = sets a one ∷ [] }))
    ∷ (Record.Abort (txn 7))
    ∷ opened 2
    ∷ []

decided-turned : turned (facts_of decided)
    ≡ Base 2 130 0 ∷ (Record.Abort (txn 7))
    ∷ (Record.Commit (record { txn = txn 6; at = 130; parts = 0 ∷ []; reads = []; writes = sets a one ∷ [] })) ∷ []
unfolding computing decided turned pruned
decided-turned = refl

decided-says : facts_of (turned (facts_of decided)) ≡ facts_of decided
unfolding computing decided turned pruned
decided-says = refl

-- ---- a horizon

two-versions : List Record
two-versions =
    opened 1
    ∷ (Record.Prepare (record { txn = txn 1; coordinator = 0; at = 200; reads = []; writes = sets z one ∷ [] }))
    ∷ (Record.Outcome (txn 1) (Some 200))
    ∷ (Record.Prepare (record { txn = txn 2; coordinator = 0; at = 300; reads = []; writes = sets z two ∷ [] }))
    ∷ (Record.Outcome (txn 2) (Some 300))
    ∷ (Record.Ceiling 400)
    ∷ []

-- it is taken up to the floor, and not twice
horizon-taken : takes (shard 1) (facts_of two-versions) (Record.Horizon 300) ≡ true
unfolding computing two-versions takes follows_facts
horizon-taken = refl

horizon-highest : takes (shard 1) (facts_of two-versions) (Record.Horizon 400) ≡ true
unfolding computing two-versions takes follows_facts
horizon-highest = refl

horizon-over : takes (shard 1) (facts_of two-versions) (Record.Horizon 401) ≡ false
unfolding computing two-versions takes follows_facts
horizon-over = refl

horizon-twice : takes (shard 1) (facts_of (two-versions ++ (Record.Horizon 300) ∷ [])) (Record.Horizon 300) ≡ false
unfolding computing two-versions takes follows_facts
horizon-twice = refl

-- at 300 the older version goes; at 299 it is the newest there, and stays
horizon-turned : turned (facts_of (two-versions ++ (Record.Horizon 300) ∷ []))
    ≡ Base 1 400 300 ∷ version z 300 two ∷ Closed (txn 1) 0 (Some 200) ∷ Closed (txn 2) 0 (Some 300) ∷ []
unfolding computing two-versions turned pruned
horizon-turned = refl

horizon-below : turned (facts_of (two-versions ++ (Record.Horizon 299) ∷ []))
    ≡ Base 1 400 299 ∷ version z 200 one ∷ version z 300 two ∷ Closed (txn 1) 0 (Some 200) ∷ Closed (txn 2) 0 (Some 300) ∷ []
unfolding computing two-versions turned pruned
horizon-below = refl

-- a promise that stands holds the horizon below it
held-at : List Record
held-at = two-versions ++ (Record.Prepare (record { txn = txn 4; coordinator = 0; at = 410; reads = []; writes = [] })) ∷ []

horizon-held : takes (shard 1) (facts_of held-at) (Record.Horizon 410) ≡ false
unfolding computing held-at two-versions takes follows_facts
horizon-held = refl

horizon-under : takes (shard 1) (facts_of held-at) (Record.Horizon 409) ≡ true
unfolding computing held-at two-versions takes follows_facts
horizon-under = refl

-- and a promise is above the horizon
promise-over : takes (shard 1) (facts_of (two-versions ++ (Record.Horizon 400) ∷ []))
    (Record.Prepare (record { txn = txn 4; coordinator = 0; at = 401; reads = []; writes = [] })) ≡ true
unfolding computing two-versions takes follows_facts
promise-over = refl

promise-at : takes (shard 1) (facts_of (two-versions ++ (Record.Horizon 400) ∷ []))
    (Record.Prepare (record { txn = txn 4; coordinator = 0; at = 400; reads = []; writes = [] })) ≡ false
unfolding computing two-versions takes follows_facts
promise-at = refl

-- ---- what may stand in a log

-- each of some records, behind some others
abbrev each : List Record → List Record → List Bool
each before [] = []
each before (r ∷ rs) = (begins before r && follows 1 before r) ∷ each before rs

-- the first is an opening of epoch 1, or a base, whose horizon is not above its floor
first-rows : each [] (opened 1 ∷ Base 7 400 300 ∷ Base 7 400 400 ∷ Base 7 400 401 ∷ opened 2 ∷ version z 200 one ∷ Settled (txn 1) 200 (1 ∷ []) ∷ [])
    ≡ true ∷ true ∷ true ∷ false ∷ false ∷ false ∷ false ∷ []
unfolding computing
first-rows = refl

-- behind a base: no other; versions; who ended; the next opening is one above its epoch; a horizon above its own
based-rows : each (Base 7 400 300 ∷ [])
    (Base 7 400 300 ∷ version z 200 one ∷ Settled (txn 1) 200 (1 ∷ 2 ∷ []) ∷ Settled (txn 1) 200 (0 ∷ 1 ∷ []) ∷ Closed (txn 1) 0 (Some 200)
    ∷ Closed (txn 1) 1 (Some 200) ∷ opened 7 ∷ opened 8 ∷ opened 9 ∷ Record.Horizon 300 ∷ (Record.Horizon 301)
    ∷ Record.Horizon 401 ∷ [])
    ≡ false ∷ true ∷ true ∷ false ∷ true ∷ false ∷ false ∷ true ∷ false ∷ false ∷ true ∷ false ∷ []
unfolding computing
based-rows = refl

-- versions ascend by key and timestamp
version-rows : each (Base 7 400 300 ∷ version z 200 one ∷ []) (version z 201 two ∷ version z 200 two ∷ version z 199 two ∷ version m 300 two ∷ [])
    ≡ true ∷ false ∷ false ∷ false ∷ []
unfolding computing
version-rows = refl

-- and stand behind a base or a version alone
behind-rows : each (Base 7 400 300 ∷ Settled (txn 1) 200 (1 ∷ []) ∷ [])
    (version z 200 one ∷ Settled (txn 1) 200 (1 ∷ []) ∷ Closed (txn 1) 0 None ∷ (Record.Abort (txn 1)) ∷ Settled (txn 2) 200 (1 ∷ []) ∷ [])
    ≡ false ∷ false ∷ false ∷ false ∷ true ∷ []
unfolding computing
behind-rows = refl

-- who ended stands before the first opening, in a log with a base
opened-rows : each (Base 7 400 300 ∷ opened 8 ∷ []) (Settled (txn 1) 200 (1 ∷ []) ∷ Closed (txn 1) 0 None ∷ version z 200 one ∷ opened 9 ∷ [])
    ≡ false ∷ false ∷ false ∷ true ∷ []
unfolding computing
opened-rows = refl

plain-rows : each (opened 1 ∷ []) (Base 1 0 0 ∷ version z 200 one ∷ Settled (txn 1) 200 (1 ∷ []) ∷ Closed (txn 1) 0 None ∷ opened 2 ∷ [])
    ≡ false ∷ false ∷ false ∷ false ∷ true ∷ []
unfolding computing
plain-rows = refl
