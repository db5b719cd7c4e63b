-- What a record of a renewed log's head leaves: the rows stay, and what is known is that of the log with it.
use Rattle.std.proofs.Common.{◌≡◌, ◌<◌, ◌≤◌, ℕ, true, false, not, cond, nat_le, List, [], ◌∷◌, None, refl, sym, ap, subst, ◌∙◌}
use Rattle.std.specs.Prelude.{IsTrue}
use Rattle.std.specs.List.{AllByRecursion, list_all}
use Rattle.std.proofs.lemmas.Bool.{false≢true, and_parts}
use Rattle.units.specs.Lists.{gather}
use Rattle.units.specs.Ids.{Id, same_id}
use Rattle.units.specs.ById.{IsById}
use Rattle.units.proofs.ByIdLaws.{first_none}
use Rattle.record.specs.Facts.{TxnStatus, Facts, learn, or_floor, recorded, with_status}
use Rattle.record.specs.Records.{Status, HasSettled, HasClosed, stamp_in}
use Rattle.record.specs.declared.record.Record.{Record}
use Rattle.facts.specs.Rules.{is_unrecorded}
use Rattle.facts.specs.Stages.{follows_head, past_head, stage_after}
use Rattle.facts.specs.declared.stage.Stage.{Stage}
use Rattle.facts.specs.declared.stage.Stage.TheVariants.{Head, Early, Open}
use Rattle.protocol.specs.Rows.{Memory, Row, find_row, rebuilt, standing_row, without_row}
use Rattle.protocol.proofs.FitsBeside.{unrecorded_is}
use Rattle.memory.specs.Kept.{Kept}
use Rattle.protocol.specs.Beside.{standing_rows}
use Rattle.recovery.specs.Recovered.{IsGood, IsOwn, IsRecovered, head_is_bare}
use Rattle.recovery.proofs.Again.{learn_order}
use Rattle.recovery.proofs.Beside.{fresh_absent, rows_are}
use Rattle.recovery.proofs.Soundness.{headed_more}
use Rattle.recovery.proofs.StandingRows.{own-status, row_gone}

-- ---- the rows

all_stay : (rows : List Row) (t : Id) → AllByRecursion (λ r. same_id r.txn t ≡ false) rows → without_row rows t ≡ rows
all_stay [] t all = refl
all_stay (r ∷ rs) t all =
    ap (λ b. cond (not b) (r ∷ without_row rs t) (without_row rs t)) all.0 ∙ ap (λ l. r ∷ l) (all_stay rs t all.1)

-- an id of which nothing is recorded ends without a row
ended_rows : (k : Kept) (t : Id) (s : Status) → IsRecovered k → is_unrecorded (recorded k.facts t) ≡ true → IsOwn (record { txn = t; status = s })
    → standing_row (record { txn = t; status = s }) ≡ None → standing_rows k.facts ≡ gather standing_row (with_status k.facts.entries t s)
ended_rows k t s recovered fresh own none =
    let absent : find_row (standing_rows k.facts) t ≡ None =
    ap (λ rows. find_row rows t) (sym (rows_are k recovered)) ∙ fresh_absent k t recovered (unrecorded_is (recorded k.facts t) fresh) in
    sym (all_stay (standing_rows k.facts) t (first_none (λ (r : Row). same_id r.txn t) (standing_rows k.facts) absent))
    ∙ row_gone k.facts.entries t s recovered.order recovered.own own none

headed_rows : (k : Kept) (shard : ℕ) (r : Record) → IsRecovered k → follows_head shard k.stage k.facts r ≡ true
    → standing_rows k.facts ≡ gather standing_row (learn k.facts r).entries
unfolding learn follows_head
headed_rows k shard (Record.Base e f n) recovered follows = refl
headed_rows k shard (Record.Version i) recovered follows = refl
headed_rows k shard (Record.Settled t at parts) recovered follows =
    ended_rows k t (HasSettled at parts) recovered (and_parts _ _ ((and_parts _ _ ((and_parts _ _ follows).0)).1)).0 tt refl
headed_rows k shard (Record.Closed t c o) recovered follows =
    ended_rows k t (HasClosed c o) recovered (and_parts _ _ ((and_parts _ _ ((and_parts _ _ follows).0)).1)).0 tt refl
headed_rows k shard _ recovered follows = absurd (false≢true follows)

headed_floor : (f : Facts) (r : Record) → (learn f r).floor ≡ or_floor f.floor (stamp_in r)
unfolding learn
headed_floor f r = refl

headed_own : (shard : ℕ) (s : Stage) (f : Facts) (r : Record) → follows_head shard s f r ≡ true → AllByRecursion IsOwn f.entries
    → AllByRecursion IsOwn (learn f r).entries
unfolding learn follows_head
headed_own shard s f (Record.Base e floor n) follows own = own
headed_own shard s f (Record.Version i) follows own = own
headed_own shard s f (Record.Settled t at parts) follows own = own-status f.entries t (HasSettled at parts) tt own
headed_own shard s f (Record.Closed t c o) follows own = own-status f.entries t (HasClosed c o) tt own
headed_own shard s f _ follows own = absurd (false≢true follows)

-- ---- where no transaction has a record

past_is_bare : (es : List TxnStatus) (s : Stage) → head_is_bare (past_head s) es ≡ true
past_is_bare [] s = refl
past_is_bare (e ∷ es) Head = refl
past_is_bare (e ∷ es) Early = refl
past_is_bare (e ∷ es) Open = refl

headed_bare : (shard : ℕ) (s : Stage) (f : Facts) (r : Record) → follows_head shard s f r ≡ true → head_is_bare s f.entries ≡ true
    → head_is_bare (stage_after s r) (learn f r).entries ≡ true
unfolding learn follows_head
headed_bare shard s f (Record.Base e floor n) follows bare = bare
headed_bare shard s f (Record.Version i) follows bare = bare
headed_bare shard s f (Record.Settled t at parts) follows bare = past_is_bare (learn f (Record.Settled t at parts)).entries s
headed_bare shard s f (Record.Closed t c o) follows bare = past_is_bare (learn f (Record.Closed t c o)).entries s
headed_bare shard s f _ follows bare = absurd (false≢true follows)

-- ---- all of it

pub keeps_recovered : (k later : Kept) (r : Record) → IsRecovered k → follows_head k.setup.shard k.stage k.facts r ≡ true
    → later.facts ≡ learn k.facts r → later.stage ≡ stage_after k.stage r
    → later.memory ≡ record k.memory { last = or_floor k.memory.last (stamp_in r) } → IsRecovered later
unfolding rebuilt
keeps_recovered k later r recovered follows facts stage memory =
    let taken = headed_more k.setup.shard k.stage k.facts r recovered.order recovered.bare follows
    (record { opened = recovered.opened; good = recovered.good; covered = recovered.covered; horizon = recovered.horizon }) in
    let rows : k.memory.rows ≡ gather standing_row (learn k.facts r).entries = rows_are k recovered ∙ headed_rows k k.setup.shard r recovered follows in
    let last : or_floor k.memory.last (stamp_in r) ≡ (learn k.facts r).floor =
    ap (λ (m : Memory). or_floor m.last (stamp_in r)) recovered.memory ∙ sym (headed_floor k.facts r) in
    let ended : k.memory.ended ≡ [] = ap (λ (m : Memory). m.ended) recovered.memory in
    record {
      memory = memory ∙ (λ i. record { last = last i; rows = rows i; ended = ended i }) ∙ ap rebuilt (sym facts);
      opened = subst (λ (f : Facts). 0 < f.epoch) (sym facts) taken.opened;
      order = subst (λ (f : Facts). IsById (λ (e : TxnStatus). e.txn) f.entries) (sym facts) (learn_order k.facts r recovered.order);
      own = subst (λ (f : Facts). AllByRecursion IsOwn f.entries) (sym facts) (headed_own k.setup.shard k.stage k.facts r follows recovered.own);
      good = subst (λ (f : Facts). AllByRecursion (IsGood f) f.entries) (sym facts) taken.good;
      covered = subst (λ (f : Facts). IsTrue (list_all (λ i. nat_le i.at f.floor) f.installs)) (sym facts) taken.covered;
      horizon = subst (λ (f : Facts). f.horizon ≤ f.floor) (sym facts) taken.horizon;
      bare = subst (λ (s : Stage). head_is_bare s later.facts.entries ≡ true) (sym stage)
          (subst (λ (f : Facts). head_is_bare (stage_after k.stage r) f.entries ≡ true) (sym facts)
          (headed_bare k.setup.shard k.stage k.facts r follows recovered.bare));
    }
