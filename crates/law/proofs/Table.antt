-- What the plans of the cells rest on.
use Rattle.std.proofs.Common.{◌≡◌, ◌⊎◌, inl, inr, ℕ, ◌+◌, ◌<◌, ◌≤◌, max, min, nat_eq, nat_lt, Bool, true, false, cond, ◌||◌, List, [], ◌∷◌, ◌++◌, Option}
use Rattle.std.proofs.Common.{Some, None, refl, sym, ap, subst, map, arith}
use Rattle.std.specs.Prelude.{Ok}
use Rattle.std.specs.List.{AllByRecursion, list_any}
use Rattle.std.proofs.lemmas.Bool.{eqb-true, ltb-true, and_parts}
use Rattle.units.specs.Lists.{has, greatest}
use Rattle.units.specs.Ids.{Id}
use Rattle.units.specs.Keys.{Bytes}
use Rattle.units.specs.Locks.{exclusive}
use Rattle.units.specs.declared.fault.Fault.TheVariants.{TimeSpent, NotYet, Early, Future}
use Rattle.units.specs.declared.lock.Lock.{Lock}
use Rattle.units.specs.declared.writes.Write.{Write}
use Rattle.record.specs.declared.record.Record.{Record}
use Rattle.message.specs.declared.message.Message.{Message}
use Rattle.protocol.specs.Rows.{Phase, Idle, WaitsRead, WaitsPrepare, WaitsCommit, Collecting, IsPrepared, IsDecided, Voted, with_vote}
use Rattle.protocol.specs.Outputs.{promise, decision, done_to}
use Rattle.protocol.specs.Plan.{time_limit, Before}
use Rattle.protocol.specs.Cells.{ToSettle, commit_stamp, other_parts, all_voted, is_outcome_for, plan_promise, plan_commit_granted, plan_decide, plan_abort}
use Rattle.protocol.specs.Cells.{plan_granted, plan_asks, plan_count, plan_advance, plan_forget, plan_retire, plan_cell, tells, answers, to_read, refuses}
use Rattle.protocol.proofs.Each.{planned, refused, tested, either, within_room}
use Rattle.law.specs.Among.{IsAmong}
use Rattle.law.specs.Evidence.{Scene, Sent, PrepareAsked, CommitAsked, VotedYes, VoteBelow, HasPromise, HasDecision, HasOutcome, WasTold, WasAsked}
use Rattle.law.specs.Evidence.{WasQuestioned, RecordEvidence, Remembers, PhaseEvidence, AllTold}
use Rattle.law.proofs.Members.{among_left, among_last, all_append, all_at, some_passes}
use Rattle.law.proofs.Moves.{LoggedEvidence, PlannedEvidence, replying, serving, dropping, putting, standing_by_record}

-- ---- votes

-- one of the shards that each voted
voted_among : (ns : List ℕ) (votes : List Voted) (m : ℕ) → all_voted ns votes ≡ true → has ns m ≡ true → list_any (λ v. nat_eq v.shard m) votes ≡ true
voted_among [] votes m e h = cc
voted_among (n ∷ ns) votes m e h = by_test (nat_eq m n) refl h (λ k. voted_among ns votes m (and_parts _ _ e).1 k)
  where
    here : nat_eq m n ≡ true → list_any (λ v. nat_eq v.shard m) votes ≡ true
    here k = subst (λ j. list_any (λ v. nat_eq v.shard j) votes ≡ true) (sym (eqb-true m n k)) (and_parts _ _ e).0

    by_test : (b : Bool) → nat_eq m n ≡ b → (b || has ns m) ≡ true → (has ns m ≡ true → list_any (λ v. nat_eq v.shard m) votes ≡ true) →
        list_any (λ v. nat_eq v.shard m) votes ≡ true
    by_test true k l rest = here k
    by_test false k l rest = rest l

-- a vote is at most the greatest
vote_below : (votes : List Voted) (v : Voted) → IsAmong votes v → v.at ≤ greatest (map (λ u. u.at) votes)
vote_below [] v h = absurd h
vote_below (u ∷ votes) v (inl h) = let same : u.at ≡ v.at = ap (λ (x : Voted). x.at) h in omega arith
vote_below (u ∷ votes) v (inr h) = let ih = vote_below votes v h in omega arith

module _ (sc : Scene) (log : List Record) (b : Before) where
  -- ---- what a decision rests on

  voted_below : (t : Id) (ns : List ℕ) (votes : List Voted) (s m : ℕ) → greatest (map (λ v. v.at) votes) ≤ s → all_voted ns votes ≡ true →
      AllByRecursion (VotedYes sc.world b.shard t) votes → has ns m ≡ true → VoteBelow sc.world b.shard t m s
  voted_below t ns votes s m top all evidence h =
      let p = some_passes votes (λ v. nat_eq v.shard m) (voted_among ns votes m all h) in
      let below = vote_below votes p.member p.among in
      record {
        stamp = p.member.at;
        sent = subst (λ k. Sent sc.world b.shard (Message.Vote (record { from = k; txn = t; vote = Some p.member.at }))) (eqb-true p.member.shard m p.passes)
            (all_at (VotedYes sc.world b.shard t) votes p.member evidence p.among);
        below = omega (arith, below, top);
      }

  decided : (t : Id) (s : ℕ) (ps : List ℕ) (rs : List Bytes) (ws : List Write) → HasDecision (log ++ decision t s ps rs ws ∷ []) t s
  decided t s ps rs ws = record { parts = ps; reads = rs; writes = ws; among = among_last log (decision t s ps rs ws) }

  promised : (t : Id) (c p : ℕ) (rs : List Bytes) (ws : List Write) → HasPromise (log ++ promise t c p rs ws ∷ []) t c p
  promised t c p rs ws = record { reads = rs; writes = ws; among = among_last log (promise t c p rs ws) }

  top_of : (last latest : ℕ) (votes : List Voted) → greatest (map (λ v. v.at) votes) ≤ commit_stamp last latest votes
  top_of last latest votes = omega arith

  over : (last latest : ℕ) (votes : List Voted) → latest < commit_stamp last latest votes
  over last latest votes = omega arith

  deciding : (ended : List Id) (t : Id) (latest : ℕ) (ps : List ℕ) (rs : List Bytes) (ws : List Write) (needs : List Lock) (votes : List Voted) →
      Remembers sc b.shard t latest ps rs ws → AllByRecursion (VotedYes sc.world b.shard t) votes → all_voted (other_parts b.shard ps) votes ≡ true →
      PlannedEvidence sc log b.shard (plan_decide b ended t latest ps rs ws needs votes)
  unfolding plan_decide
  deciding ended t latest ps rs ws needs votes remembers evidence all =
      let s = commit_stamp b.memory.last latest votes in
      either _ _ _
      (standing_by_record sc log b ended t needs (IsDecided s ps) (decision t s ps rs ws) (max b.memory.last s) []
      (record {
        asked = remembers.asked;
        voted = λ m h. voted_below t (other_parts b.shard ps) votes s m (top_of b.memory.last latest votes) all evidence h;
        latest = latest;
        began = remembers.began;
        above = over b.memory.last latest votes;
        rests = inr (record { latest = latest; asked = remembers.counts; above = over b.memory.last latest votes });
      })
      (decided t s ps rs ws) tt)
      (refused TimeSpent tt)

  -- ---- promises

  promising : (ended : List Id) (earliest : ℕ) (t : Id) (c : ℕ) (rs : List Bytes) (ws : List Write) → PrepareAsked sc.world b.shard t c rs ws →
      PlannedEvidence sc log b.shard (plan_promise b ended earliest t c rs ws)
  unfolding plan_promise
  promising ended earliest t c rs ws asked =
      let p = max (b.memory.last + 1) earliest in
      either _ _ _
      (standing_by_record sc log b ended t (exclusive ws) (IsPrepared c p) (promise t c p rs ws) _ _ asked (promised t c p rs ws)
      ((refl, record { coordinator = c; promised = promised t c p rs ws }), tt))
      (refused TimeSpent tt)

  -- ---- aborts

  -- word of an abort, once it is logged
  tells_told : (log2 : List Record) (t : Id) (ns : List ℕ) → IsAmong log2 (Record.Abort t) → AllTold log2 sc.now b.shard (tells b t None ns)
  tells_told log2 t [] h = tt
  tells_told log2 t (n ∷ ns) h = ((refl, h), tells_told log2 t ns h)

  pub aborting : (t : Id) (ps : List ℕ) → WasAsked sc.world b.shard t ⊎ WasQuestioned sc.world b.shard t → PlannedEvidence sc log b.shard (Ok (plan_abort b t ps))
  unfolding plan_abort
  aborting t ps why =
      let logged = among_last log (Record.Abort t) in
      dropping sc log b t (Record.Abort t) b.memory.last (done_to t None ∷ tells b t None (other_parts b.shard ps)) why
      (logged, tells_told (log ++ Record.Abort t ∷ []) t (other_parts b.shard ps) logged)

  pub was_asked : (t : Id) (ps : List ℕ) (rs : List Bytes) (ws : List Write) → CommitAsked sc.world b.shard t ps rs ws → WasAsked sc.world b.shard t
      ⊎ WasQuestioned sc.world b.shard t
  was_asked t ps rs ws h = inl (record { parts = ps; reads = rs; writes = ws; asked = h })

  -- ---- fresh, granted, waits

  commit_granting : (ended : List Id) (t : Id) (latest : ℕ) (ps : List ℕ) (rs : List Bytes) (ws : List Write) → Remembers sc b.shard t latest ps rs ws →
      (ns : List ℕ) → other_parts b.shard ps ≡ ns → PlannedEvidence sc log b.shard (plan_commit_granted b ended t latest ps rs ws ns)
  unfolding plan_commit_granted
  commit_granting ended t latest ps rs ws remembers [] e =
      deciding ended t latest ps rs ws (exclusive ws) [] remembers tt (ap (λ ns. all_voted ns []) e)
  commit_granting ended t latest ps rs ws remembers (n ∷ ns) e =
      putting sc log b ended t (exclusive ws) (Collecting latest ps rs ws []) b.memory.last [] (remembers, tt) tt

  -- what stands behind a wait stands behind what it comes to
  pub granting : (ended : List Id) (earliest : ℕ) (t : Id) (wait : Phase) → PhaseEvidence sc log b.shard t wait →
      PlannedEvidence sc log b.shard (plan_granted b ended earliest t wait)
  unfolding plan_granted
  granting ended earliest t (WaitsRead k) e = putting sc log b ended t (to_read k) Idle b.memory.last (answers b t k ∷ []) tt (tt, tt)
  granting ended earliest t (WaitsPrepare c rs ws) e = promising ended earliest t c rs ws e
  granting ended earliest t (WaitsCommit l ps rs ws) e = commit_granting ended t l ps rs ws e (other_parts b.shard ps) refl
  granting ended earliest t _ e = replying sc log b [] tt

  pub asking : (earliest : ℕ) (t : Id) (wait : Phase) → PhaseEvidence sc log b.shard t wait → PlannedEvidence sc log b.shard (plan_asks b earliest t wait)
  unfolding plan_asks
  asking earliest t wait e =
      within_room _ _ tt (either _ _ _ (granting _ earliest t wait e) (putting sc log b _ t [] wait b.memory.last [] e tt))

  -- ---- vote

  one_more : (t : Id) (n p : ℕ) (votes : List Voted) → VotedYes sc.world b.shard t (record { shard = n; at = p }) →
      AllByRecursion (VotedYes sc.world b.shard t) votes →
      AllByRecursion (VotedYes sc.world b.shard t) (with_vote n p votes)
  one_more t n p votes new old = by_test (list_any (λ v. nat_eq v.shard n) votes)
    where
      by_test : (c : Bool) → AllByRecursion (VotedYes sc.world b.shard t) (cond c votes (votes ++ record { shard = n; at = p } ∷ []))
      by_test true = old
      by_test false = all_append (VotedYes sc.world b.shard t) votes (record { shard = n; at = p } ∷ []) old (new, tt)

  pub counting : (n : ℕ) (t : Id) (vote : Option ℕ) (latest : ℕ) (ps : List ℕ) (rs : List Bytes) (ws : List Write) (votes : List Voted) →
      Sent sc.world b.shard (Message.Vote (record { from = n; txn = t; vote = vote })) → Remembers sc b.shard t latest ps rs ws →
      AllByRecursion (VotedYes sc.world b.shard t) votes → PlannedEvidence sc log b.shard (plan_count b n t vote latest ps rs ws votes)
  unfolding plan_count
  counting n t None latest ps rs ws votes sent remembers evidence = aborting t ps (was_asked t ps rs ws remembers.asked)
  counting n t (Some p) latest ps rs ws votes sent remembers evidence =
      let more = one_more t n p votes sent evidence in
      tested (all_voted (other_parts b.shard ps) (with_vote n p votes)) _ _
      (λ all. deciding [] t latest ps rs ws [] (with_vote n p votes) remembers more all)
      (putting sc log b [] t [] (Collecting latest ps rs ws (with_vote n p votes)) b.memory.last [] (remembers, more) tt)

  -- ---- outcome, give up, ask

  -- a promise stands here, and its coordinator has told the outcome at a time that has passed
  closing : (n : ℕ) (t : Id) (outcome : Option ℕ) (c p : ℕ) → Sent sc.world b.shard (Message.Outcome (record { from = n; txn = t; outcome = outcome })) →
      ((s : ℕ) → outcome ≡ Some s → s < sc.now) → HasPromise log t c p → nat_eq n c ≡ true → RecordEvidence sc log b.shard (Record.Outcome t outcome)
  closing n t outcome c p sent passed promised same = by_outcome outcome passed (record {
    coordinator = c;
    stamp = p;
    promised = promised;
    sent = subst (λ k. Sent sc.world b.shard (Message.Outcome (record { from = k; txn = t; outcome = outcome }))) (eqb-true n c same) sent;
  })
    where
      by_outcome : (o : Option ℕ) → ((s : ℕ) → o ≡ Some s → s < sc.now) → WasTold sc.world log b.shard t o → RecordEvidence sc log b.shard (Record.Outcome t o)
      by_outcome None early told = told
      by_outcome (Some s) early told = (early s refl, inr told)

  same_sender : (n c p : ℕ) (outcome : Option ℕ) → is_outcome_for n c p outcome ≡ true → nat_eq n c ≡ true
  same_sender n c p None e = e
  same_sender n c p (Some s) e = (and_parts _ _ e).0

  pub closing_told : (n c p : ℕ) (t : Id) (outcome : Option ℕ) → Sent sc.world b.shard (Message.Outcome (record { from = n; txn = t; outcome = outcome })) →
      ((s : ℕ) → outcome ≡ Some s → s < sc.now) → HasPromise log t c p → is_outcome_for n c p outcome ≡ true →
      RecordEvidence sc log b.shard (Record.Outcome t outcome)
  closing_told n c p t outcome sent passed promised allowed = closing n t outcome c p sent passed promised (same_sender n c p outcome allowed)

  -- refused votes rest on nothing
  pub refusals_told : (t : Id) (cs : List ℕ) → AllTold log sc.now b.shard (map (refuses b t) cs)
  refusals_told t [] = tt
  refusals_told t (c ∷ cs) = (tt, refusals_told t cs)

  -- ---- the chores of a shard

  -- word of a commit, once its outcome is logged
  outcome_told : (log2 : List Record) (t : Id) (s : ℕ) (ns : List ℕ) → HasOutcome log2 sc.now t s → AllTold log2 sc.now b.shard (tells b t (Some s) ns)
  outcome_told log2 t s [] h = tt
  outcome_told log2 t s (n ∷ ns) h = ((refl, h), outcome_told log2 t s ns h)

  pub settling : (earliest : ℕ) (t : Id) (s : ℕ) (ps : List ℕ) → earliest ≤ sc.now → HasDecision log t s →
      PlannedEvidence sc log b.shard (plan_cell b (ToSettle earliest t s ps))
  settling earliest t s ps honest e =
      tested (nat_lt s earliest) _ _
      (λ past.
      let below : s < earliest = ltb-true s earliest past in
      let passed : s < sc.now = omega (arith, below, honest) in
      let more = log ++ Record.Outcome t (Some s) ∷ [] in
      let stands : HasOutcome more sc.now t s = record {
        decided = record {
          parts = e.parts;
          reads = e.reads;
          writes = e.writes;
          among = among_left log (Record.Outcome t (Some s) ∷ [])
              (decision t s e.parts e.reads e.writes) e.among;
        };
        ended = among_last log (Record.Outcome t (Some s));
        passed = passed;
      } in
      dropping sc log b t (Record.Outcome t (Some s)) b.memory.last (done_to t (Some s) ∷ tells b t (Some s) (other_parts b.shard ps)) (passed, inl e)
      (stands, outcome_told more t s (other_parts b.shard ps) stands))
      (refused Early tt)

  pub advancing : (latest stride at : ℕ) → PlannedEvidence sc log b.shard (plan_advance b latest stride at)
  unfolding plan_advance
  advancing latest stride at =
      either _ _ _ (refused Future tt) (serving sc log b _ _ (ceiling (nat_lt b.facts.floor at) (min (at + stride) time_limit)))
    where
      ceiling : (high : Bool) (n : ℕ) → LoggedEvidence sc log b.shard (cond high (Some (Record.Ceiling n)) None)
      ceiling true n = tt
      ceiling false n = tt

  pub forgetting : (at : ℕ) → PlannedEvidence sc log b.shard (plan_forget b at)
  unfolding plan_forget
  forgetting at =
      either _ _ _ (refused NotYet tt) (either _ _ _ (replying sc log b [] tt) (serving sc log b _ _ tt))

  pub retiring : (below : Id) → PlannedEvidence sc log b.shard (plan_retire b below)
  unfolding plan_retire
  retiring below =
      either _ _ _ (refused NotYet tt)
      (either _ _ _ (planned _ (record { logged = tt; change = tt; told = tt })) (replying sc log b [] tt))
