-- A run of some events and of one more.
use Rattle.std.proofs.Common.{◌≡◌, ◌⊎◌, inl, inr, ℕ, suc, ◌+◌, ◌<◌, Bool, true, false, ◌&&◌, cond, List, [], ◌∷◌, ◌++◌, length}
use Rattle.std.proofs.Common.{take, drop, get_or, Some, Result, Ok, Err, IfOk, refl, sym, ap, ◌∙◌, subst, arith}
use Rattle.std.proofs.lemmas.Bool.{and_parts}
use Rattle.std.proofs.Math.Seq.{drop-cons}
use Rattle.std.proofs.lemmas.List.{length-take-le, take-append-drop, take_more, length_push}
use Rattle.units.specs.declared.fault.Fault.{Fault}
use Rattle.units.specs.declared.fault.Fault.TheVariants.{Memory, BadRequest}
use Rattle.units.specs.declared.fault.Reason.TheVariants.{Unlawful}
use Rattle.world.specs.World.{World, happens, replies_of_run, replies_from, run, run_from, start}
use Rattle.world.specs.Lawful.{first_unlawful_from, lawful, lawful_from, may_happen}
use Rattle.lives.specs.Runs.{IsRun, KeepsLaws, TakesEvent}
use Rattle.playing.specs.Reports.{IsNoReport, IsReport, IsUnlawful, Plays, Reports, counts_from, counts_of_run}
use Rattle.world.proofs.EveryRun.{is_steady}
use Rattle.law.proofs.HasAreas.{always_has_areas}
use Rattle.world.proofs.Untouched.{counts_one}
use Rattle.world.specs.declared.event.Config.{Config}
use Rattle.world.specs.declared.event.Event.{Event}
use Rattle.world.specs.declared.event.Reply.{Reply}
use Rattle.playing.specs.declared.plays.Report.{Report}
use Rattle.lives.specs.declared.run.Run.{Run}

run_more : (w : World) (es : List Event) (e : Event) → run_from w (es ++ e ∷ []) ≡ (happens (run_from w es) e).0
run_more w [] e = refl
run_more w (x ∷ xs) e = run_more ((happens w x).0) xs e

replies_more : (w : World) (es : List Event) (e : Event) → replies_from w (es ++ e ∷ []) ≡ replies_from w es ++ (happens (run_from w es) e).1 ∷ []
replies_more w [] e = refl
replies_more w (x ∷ xs) e = ap (λ rs. (happens w x).1 ∷ rs) (replies_more ((happens w x).0) xs e)

counts_more : (w : World) (es : List Event) (e : Event) → counts_from w (es ++ e ∷ []) ≡ counts_from w es ++ length ((happens (run_from w es) e).0).bag ∷ []
counts_more w [] e = refl
counts_more w (x ∷ xs) e = ap (λ ns. length ((happens w x).0).bag ∷ ns) (counts_more ((happens w x).0) xs e)

lawful_more : (w : World) (es : List Event) (e : Event) → lawful_from w es ≡ true → may_happen (run_from w es) e ≡ true → lawful_from w (es ++ e ∷ []) ≡ true
lawful_more w [] e fair may = ap (λ b. b && true) may
lawful_more w (x ∷ xs) e fair may =
    let p = and_parts (may_happen w x) (lawful_from ((happens w x).0) xs) fair in
    ap (λ b. b && lawful_from ((happens w x).0) (xs ++ e ∷ [])) p.0 ∙ lawful_more ((happens w x).0) xs e p.1 may

unlawful_at : (w : World) (es : List Event) (e : Event) (rest : List Event) → lawful_from w es ≡ true → may_happen (run_from w es) e ≡ false
    → first_unlawful_from w (es ++ e ∷ rest) ≡ Some (run_from w es).event
unlawful_at w [] e rest fair may = ap (λ b. cond b (first_unlawful_from ((happens w e).0) rest) (Some w.event)) may
unlawful_at w (x ∷ xs) e rest fair may =
    let p = and_parts (may_happen w x) (lawful_from ((happens w x).0) xs) fair in
    ap (λ b. cond b (first_unlawful_from ((happens w x).0) (xs ++ e ∷ rest)) (Some w.event)) p.0 ∙ unlawful_at ((happens w x).0) xs e rest p.1 may

-- where an event may not happen the list is not lawful
not_lawful : (w : World) (es : List Event) (n : ℕ) → first_unlawful_from w es ≡ Some n → lawful_from w es ≡ false
not_lawful w [] n h = absurd (cc)
not_lawful w (e ∷ es) n h = by_test (may_happen w e) h (λ k. not_lawful ((happens w e).0) es n k)
  where
    by_test : (b : Bool) → cond b (first_unlawful_from ((happens w e).0) es) (Some w.event) ≡ Some n
        → (first_unlawful_from ((happens w e).0) es ≡ Some n → lawful_from ((happens w e).0) es ≡ false) → (b && lawful_from ((happens w e).0) es) ≡ false
    by_test true k rest = rest k
    by_test false k rest = refl

pub unlawful : (config : Config) (es : List Event) (fault : Fault) → IsUnlawful config es fault → lawful config es ≡ false
unfolding lawful
unlawful config es fault h = not_lawful (start config) es h.0 h.2

-- what holds of a run after some events
pub record HasPlayed (config : Config) (es : List Event) (r : Run) (answers : List Reply) (counts : List ℕ) : Type 0 where
  pub fair : lawful config es ≡ true
  pub event : (run config es).event ≡ length es
  pub stands : IsRun r (run config es)
  pub told : answers ≡ replies_of_run config es
  pub counted : counts ≡ counts_of_run config es

pub none_played : (config : Config) (r : Run) (answers : List Reply) (counts : List ℕ) → IsRun r (start config) → (answers ≡ []) × (counts ≡ []) →
    HasPlayed config [] r answers counts
unfolding run lawful replies_of_run counts_of_run start
none_played config r answers counts h none = record { fair = refl; event = refl; stands = h; told = none.0; counted = none.1 }

module _ (config : Config) (es : List Event) (r new : Run) (answers : List Reply) (counts : List ℕ) (h : HasPlayed config es r answers counts) where
  pub laws : KeepsLaws (run config es)
  laws = (is_steady config es h.fair, always_has_areas config es h.fair)

  pub one_played : (e : Event) (reply : Reply) (count : ℕ) → count ≡ length new.output.bag → TakesEvent (run config es) e new (Ok reply) →
      HasPlayed config (es ++ e ∷ []) new (answers ++ reply ∷ []) (counts ++ count ∷ [])
  unfolding run lawful replies_of_run counts_of_run
  one_played e reply count many t =
      let same = run_more (start config) es e in
      let long = length_push es e in
      let event = h.event in
      let long_event : suc (run config es).event ≡ length (es ++ e ∷ []) = omega (arith, event, long) in
      record {
        fair = lawful_more (start config) es e h.fair t.0;
        event = ap (λ w. w.event) same ∙ counts_one (run config es) e ∙ long_event;
        stands = subst (λ w. IsRun new w) (sym same) t.1.1;
        told = (λ i. h.told i ++ t.1.0 i ∷ []) ∙ sym (replies_more (start config) es e);
        counted = (λ i. h.counted i ++ (many ∙ ap length t.1.1.output.bag) i ∷ []) ∙ sym (counts_more (start config) es e);
      }

  pub none_more : (e : Event) (rest : List Event) (fault : Fault) → TakesEvent (run config es) e new (Err fault) → (fault ≡ Memory)
      ⊎ IsUnlawful config (es ++ e ∷ rest) fault
  unfolding run lawful
  none_more e rest fault (inl memory) = inl memory
  none_more e rest fault (inr t) = inr ((run config es).event, t.0, unlawful_at (start config) es e rest h.fair t.1)

-- ---- the events before a place, and the one there

pub front_is : (es : List Event) (n : ℕ) (e : Event) → n < length es → e ≡ get_or es n e → take (n + 1) es ≡ take n es ++ e ∷ []
front_is es n e lt is = take_more es n e lt ∙ ap (λ x. take n es ++ x ∷ []) (sym is)

pub whole_is : (es : List Event) (n : ℕ) (e : Event) → n < length es → e ≡ get_or es n e → take n es ++ e ∷ drop (suc n) es ≡ es
whole_is es n e lt is = ap (λ xs. take n es ++ xs) (ap (λ x. x ∷ drop (suc n) es) is ∙ sym (drop-cons es n e lt)) ∙ take-append-drop n es

-- what has been played of some events, and the next of them
module _ (config : Config) (es : List Event) (n : ℕ) (e : Event) (lt : n < length es) (is : e ≡ get_or es n e) (r new : Run) (answers : List Reply)
    (counts : List ℕ) (h : HasPlayed config (take n es) r answers counts) where
  so_many : length (take n es) ≡ n
  so_many = length-take-le n es (omega (arith, lt))

  taken : (result : Result Reply Fault) → ((w : World) → w.event ≡ n → IsRun r w → KeepsLaws w → TakesEvent w e new result) →
      TakesEvent (run config (take n es)) e new result
  taken result f = f (run config (take n es)) (h.event ∙ so_many) h.stands (laws config (take n es) r r answers counts h)

  pub next_played : (reply : Reply) (count : ℕ) (told : List Reply) (counted : List ℕ) → told ≡ answers ++ reply ∷ [] → counted ≡ counts ++ count ∷ [] →
      count ≡ length new.output.bag → ((w : World) → w.event ≡ n → IsRun r w → KeepsLaws w → TakesEvent w e new (Ok reply))
      → HasPlayed config (take (n + 1) es) new told counted
  next_played reply count told counted are many is_many f =
      subst (λ xs. HasPlayed config xs new told counted) (sym (front_is es n e lt is))
      (subst (λ rs. HasPlayed config (take n es ++ e ∷ []) new rs counted) (sym are)
      (subst (λ ns. HasPlayed config (take n es ++ e ∷ []) new (answers ++ reply ∷ []) ns) (sym many)
      (one_played config (take n es) r new answers counts h e reply count is_many (taken (Ok reply) f))))

  pub none_next : (fault : Fault) (result : Result (Unit {0}) Fault) (told : List Reply) (counted : List ℕ) → result ≡ Err fault →
      ((w : World) → w.event ≡ n → IsRun r w → KeepsLaws w → TakesEvent w e new (Err fault))
      → Plays config es new told counted result
  none_next fault result told counted is_err f =
      subst (λ x. Plays config es new told counted x) (sym is_err)
      (subst (λ xs. (fault ≡ Memory) ⊎ IsUnlawful config xs fault) (whole_is es n e lt is)
      (none_more config (take n es) r new answers counts h e (drop (suc n) es) fault (taken (Err fault) f)))

-- ---- the report

pub reported : (config : Config) (es : List Event) (r : Run) (answers : List Reply) (counts : List ℕ) (result : Result Report Fault)
    (played : Result (Unit {0}) Fault) → played ≡ Ok tt → Plays config es r answers counts played
    → ((w : World) → IsRun r w → IfOk result (λ report. Reports w answers counts report)) → IfOk result (λ report. IsReport config es report)
reported config es r answers counts (Err fault) played is plays h = tt
reported config es r answers counts (Ok report) played is plays h =
    let all = subst (λ x. Plays config es r answers counts x) is plays in
    let p = h (run config es) all.3 in
    record { fair = all.0; replies = p.replies ∙ all.1; counts = p.counted ∙ all.2; bag = p.bag; disks = p.disks; logs = p.logs; lines = p.lines }

-- a list that is refused as unlawful is not lawful
pub not_fair : (config : Config) (es : List Event) (fault : Fault) (n : ℕ) → IsNoReport config es fault → fault ≡ BadRequest (Unlawful n) →
    lawful config es ≡ false
not_fair config es fault n (inl memory) is = absurd (cc)
not_fair config es fault n (inr not) is = unlawful config es fault not

-- any other is refused for memory
pub other_cause : (config : Config) (es : List Event) (fault : Fault) → IsNoReport config es fault → ((n : ℕ) → fault ≡ BadRequest (Unlawful n) → ⊥)
    → fault ≡ Memory
other_cause config es fault (inl memory) other = memory
other_cause config es fault (inr not) other = absurd (other not.0 not.1)
