-- The oldest of some ids.
use Rattle.std.specs.Prelude.{cond, List, [], ◌∷◌, Option, Some, None}
use Rattle.units.specs.Ids.{Id, older, with_id}

-- the ids with some more
abbrev pub with_ids : List Id → List Id → List Id
with_ids us [] = us
with_ids us (t ∷ ts) = with_ids (with_id us t) ts

-- the older of two ids, where there is a first
abbrev pub older_of : Option Id → Id → Id
older_of None t = t
older_of (Some u) t = cond (older u t) u t

-- the oldest of some ids and of one that was found before
abbrev pub oldest : Option Id → List Id → Option Id
oldest found [] = found
oldest found (t ∷ ts) = oldest (Some (older_of found t)) ts
