-- What is said of a change, of the one that it is known to be.
use Rattle.std.proofs.Common.{◌≡◌, List, Option, sym, ap, subst}
use Rattle.units.specs.Ids.{Id}
use Rattle.units.specs.declared.lock.Lock.{Lock}
use Rattle.record.specs.declared.record.Record.{Record}
use Rattle.protocol.specs.Rows.{Row, without_rows}
use Rattle.protocol.specs.Plan.{after_change, ended_by}
use Rattle.memory.specs.Carry.{FitsRows, asker, admitted}
use Rattle.memory.specs.Plans.{change_of}
use Rattle.memory.specs.declared.plan.Change.{Change}

pub fits_as : {h g : Change} (rows : List Row) (us : List Id) (needs : List Lock) (logged : Option Record) → h ≡ g → FitsRows rows us needs logged h
    → FitsRows rows us needs logged g
fits_as rows us needs logged is = subst (FitsRows rows us needs logged) is

pub there_as : {h g : Change} (rows : List Row) → h ≡ g → admitted rows (asker h) ≡ rows → admitted rows (asker g) ≡ rows
there_as rows is = subst (λ (h : Change). admitted rows (asker h) ≡ rows) is

pub rows_as : {h g : Change} (rows : List Row) (us : List Id) (needs : List Lock) (logged : Option Record) → h ≡ g →
    after_change (change_of rows needs logged g) (without_rows rows us) ≡ after_change (change_of rows needs logged h) (without_rows rows us)
rows_as rows us needs logged is = ap (λ (h : Change). after_change (change_of rows needs logged h) (without_rows rows us)) (sym is)

pub ids_as : {h g : Change} (rows : List Row) (needs : List Lock) (logged : Option Record) (ids : List Id) → h ≡ g →
    ended_by (change_of rows needs logged g) ids ≡ ended_by (change_of rows needs logged h) ids
ids_as rows needs logged ids is = ap (λ (h : Change). ended_by (change_of rows needs logged h) ids) (sym is)
