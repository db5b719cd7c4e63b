-- What a log says names keys of its shard alone, where each of its records does.
use Rattle.std.specs.List.{AllByRecursion, list_all}
use Rattle.std.specs.Prelude.{IsTrue}
use Rattle.std.proofs.Common.{◌≡◌, ◌&&◌, ◌∙◌, ℕ, Bool, true, false, not, cond, filter, nat_eq, List, [], ◌∷◌, ◌++◌, Option, Some, None, refl, sym, subst}
use Rattle.std.proofs.Common.{append_assoc}
use Rattle.std.proofs.lemmas.Bool.{and_from, and_parts}
use Rattle.std.proofs.lemmas.List.{append-nil}
use Rattle.units.specs.Ids.{Id, same_id, older}
use Rattle.units.specs.Keys.{shard_of}
use Rattle.units.specs.Lists.{first}
use Rattle.units.specs.Versions.{versions}
use Rattle.units.specs.declared.setup.Setup.{Setup}
use Rattle.units.specs.declared.writes.Install.{Install}
use Rattle.units.specs.declared.writes.Write.{Write}
use Rattle.units.proofs.ByIdLaws.{all-with, first_all}
use Rattle.record.specs.Accepted.{belongs, followed, followed_from, begins, follows}
use Rattle.record.specs.Facts.{Facts, TxnStatus, after_outcome, facts_of, installs_at, learn, or_unrecorded, recorded, with_status}
use Rattle.record.specs.Installs.{installs_of}
use Rattle.record.specs.Records.{Status, Unrecorded, StandsPrepared, StandsDecided, HasAborted, HasSettled, HasClosed}
use Rattle.record.specs.declared.record.Record.{Record}
use Rattle.record.specs.declared.record.Record.TheVariants.{Prepare, Commit, Abort, Outcome, Base, Version, Settled, Closed, Retired}
use Rattle.record.proofs.LearnAgrees.{followed_more, learn_agrees}
use Rattle.ledger.specs.Keeps.{NamesOwn}
use Rattle.ledger.proofs.Entries.{entry, id_of, with_status-is}
use Rattle.law.proofs.Members.{all_append}

-- a version of a key of the shard
abbrev pub IsOwn : Setup → Install → Type 0
IsOwn setup i = IsTrue (nat_eq (shard_of setup.splits i.key) setup.shard)

-- all versions, and what stands
pub record NamesOwnKeys (setup : Setup) (facts : Facts) : Type 0 where
  pub installs : AllByRecursion (IsOwn setup) facts.installs
  pub entries : AllByRecursion (NamesOwn setup) facts.entries

module _ (setup : Setup) where
  put : (es : List TxnStatus) (t : Id) (s : Status) → NamesOwn setup (entry t s) → AllByRecursion (NamesOwn setup) es →
      AllByRecursion (NamesOwn setup) (with_status es t s)
  put es t s own all = subst (AllByRecursion (NamesOwn setup)) (sym (with_status-is es t s)) (all-with (NamesOwn setup) id_of es (entry t s) own all)

  -- what has ended names no key
  ended : (t : Id) (s : Status) (outcome : Option ℕ) → NamesOwn setup (entry t (after_outcome s outcome))
  ended t Unrecorded outcome = tt
  ended t (StandsPrepared p) outcome = tt
  ended t (StandsDecided c) outcome = tt
  ended t HasAborted outcome = tt
  ended t (HasSettled at parts) outcome = tt
  ended t (HasClosed coordinator o) outcome = tt

  own_writes : (ws : List Write) (at : ℕ) → list_all (λ w. nat_eq (shard_of setup.splits w.key) setup.shard) ws ≡ true →
      AllByRecursion (IsOwn setup) (versions ws at)
  own_writes [] at h = tt
  own_writes (w ∷ ws) at h =
      let p = and_parts (nat_eq (shard_of setup.splits w.key) setup.shard) (list_all (λ v. nat_eq (shard_of setup.splits v.key) setup.shard) ws) h in
      (p.0, own_writes ws at p.1)

  -- what an outcome installs
  own_installed : (t : Id) (s : Status) (outcome : Option ℕ) → NamesOwn setup (entry t s) → AllByRecursion (IsOwn setup) (installs_at s outcome)
  own_installed t (StandsPrepared p) None own = tt
  own_installed t (StandsPrepared p) (Some at) own = own_writes p.writes at (and_parts _ _ own).1
  own_installed t (StandsDecided c) None own = tt
  own_installed t (StandsDecided c) (Some at) own = own_writes c.writes at (and_parts _ _ own).1
  own_installed t _ outcome own = tt

  own_recorded : (f : Facts) (t : Id) → AllByRecursion (NamesOwn setup) f.entries → NamesOwn setup (entry t (recorded f t))
  own_recorded f t all = by_found (first (λ e. same_id e.txn t) f.entries) refl
    where
      by_status : (u : Id) (s : Status) → NamesOwn setup (entry u s) → NamesOwn setup (entry t s)
      by_status u (StandsPrepared p) own = own
      by_status u (StandsDecided c) own = own
      by_status u _ own = tt

      by_found : (found : Option TxnStatus) → first (λ e. same_id e.txn t) f.entries ≡ found → NamesOwn setup (entry t (or_unrecorded found))
      by_found None is = tt
      by_found (Some x) is = by_status x.txn x.status (first_all (NamesOwn setup) (λ e. same_id e.txn t) f.entries x all is)

  -- ---- one more record

  all_kept : (left : TxnStatus → Bool) (es : List TxnStatus) → AllByRecursion (NamesOwn setup) es → AllByRecursion (NamesOwn setup) (filter left es)
  all_kept left [] h = tt
  all_kept left (e ∷ es) h = by_test (left e) (all_kept left es h.1)
    where
      by_test : (b : Bool) → AllByRecursion (NamesOwn setup) (filter left es) →
          AllByRecursion (NamesOwn setup) (cond b (e ∷ filter left es) (filter left es))
      by_test true rest = (h.0, rest)
      by_test false rest = rest

  learn_own : (f : Facts) (r : Record) → belongs setup r ≡ true → NamesOwnKeys setup f → NamesOwnKeys setup (learn f r)
  unfolding learn belongs
  learn_own f (Prepare p) own h = record { installs = h.installs; entries = put f.entries p.txn (StandsPrepared p) own h.entries }
  learn_own f (Commit c) own h = record { installs = h.installs; entries = put f.entries c.txn (StandsDecided c) own h.entries }
  learn_own f (Abort t) own h = record { installs = h.installs; entries = put f.entries t HasAborted tt h.entries }
  learn_own f (Outcome t outcome) own h = record {
    installs = all_append (IsOwn setup) f.installs (installs_at (recorded f t) outcome) h.installs
        (own_installed t (recorded f t) outcome (own_recorded f t h.entries));
    entries = put f.entries t (after_outcome (recorded f t) outcome) (ended t (recorded f t) outcome) h.entries;
  }
  learn_own f (Base epoch floor horizon) own h = record { installs = h.installs; entries = h.entries }
  learn_own f (Version install) own h = record { installs = all_append (IsOwn setup) f.installs (install ∷ []) h.installs (own, tt); entries = h.entries }
  learn_own f (Settled t at parts) own h = record { installs = h.installs; entries = put f.entries t (HasSettled at parts) tt h.entries }
  learn_own f (Closed t coordinator outcome) own h = record { installs = h.installs; entries = put f.entries t (HasClosed coordinator outcome) tt h.entries }
  learn_own f (Retired below) own h = record { installs = h.installs; entries = all_kept (λ e. not (older e.txn below)) f.entries h.entries }
  learn_own f _ own h = record { installs = h.installs; entries = h.entries }

  -- ---- a whole log

  own_from : (before log : List Record) → followed setup.shard before ≡ true → followed_from setup.shard before log ≡ true →
      list_all (belongs setup) log ≡ true → NamesOwnKeys setup (facts_of before) → NamesOwnKeys setup (facts_of (before ++ log))
  own_from before [] known h own k = subst (λ l. NamesOwnKeys setup (facts_of l)) (sym (append-nil before)) k
  own_from before (r ∷ rs) known h own k =
      let come = and_parts (begins before r && follows setup.shard before r) (followed_from setup.shard (before ++ r ∷ []) rs) h in
      let mine = and_parts (belongs setup r) (list_all (belongs setup) rs) own in
      let more : followed setup.shard (before ++ r ∷ []) ≡ true = followed_more setup.shard before r ∙ and_from _ _ known come.0 in
      subst (λ l. NamesOwnKeys setup (facts_of l)) (append_assoc before (r ∷ []) rs)
      (own_from (before ++ r ∷ []) rs more come.1 mine.1
      (subst (NamesOwnKeys setup) (sym (learn_agrees setup.shard before r more)) (learn_own (facts_of before) r mine.0 k)))

  pub log_names_own : (log : List Record) → followed setup.shard log ≡ true → list_all (belongs setup) log ≡ true → NamesOwnKeys setup (facts_of log)
  unfolding followed facts_of installs_of
  log_names_own log h own = own_from [] log refl h own (record { installs = tt; entries = tt })
