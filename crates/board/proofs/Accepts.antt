-- What the acceptance and the publishing of entries come to.
use Rattle.std.proofs.Common.{◌≡◌, true, List, [], ◌∷◌, ◌++◌, Result, Ok, Err, MatchResult, drop, length, refl, ap, sym, subst, ◌∙◌, append_assoc}
use Rattle.std.proofs.lemmas.List.{append-nil}
use mathlib.Core.Bool.{true≢false}
use mathlib.Core.List.{IsPrefix}
use Rattle.board.specs.declared.entry.BoardEntry.{BoardEntry}
use Rattle.units.specs.declared.fault.Fault.{Fault}
use Rattle.units.specs.declared.fault.Fault.TheVariants.{Memory}
use Rattle.board.specs.Board.{is_board}
use Rattle.growing.proofs.Prefixes.{prefix_self, prefix_trans}
use Rattle.board.specs.declared.change.BoardChange.{BoardChange}
use Rattle.board.specs.declared.change.BoardChange.TheVariants.{Prepare, Commit}
use Rattle.board.specs.State.{Page, BoardState, is_quiet, newly_prepared, pending_of}
use Rattle.board.specs.Views.{Published, Publishing, PublishesAll}
use Rattle.board.specs.Publications.{IsRefused, IsPublished, IsFinished}
use Rattle.board.proofs.Steps.{all_ahead, same_pending}

quiet_more : (changes : List BoardChange) (e : BoardEntry) → is_quiet changes ≡ true → is_quiet (changes ++ Prepare e ∷ []) ≡ true
quiet_more [] e h = refl
quiet_more (Prepare d ∷ changes) e h = quiet_more changes e h
quiet_more (Commit ∷ changes) e h = absurd (true≢false (sym h))

prepared_snoc : (changes : List BoardChange) (e : BoardEntry) → newly_prepared (changes ++ Prepare e ∷ []) ≡ newly_prepared changes ++ e ∷ []
prepared_snoc [] e = refl
prepared_snoc (Prepare d ∷ changes) e = ap (λ es. d ∷ es) (prepared_snoc changes e)
prepared_snoc (Commit ∷ changes) e = prepared_snoc changes e

pending_snoc : (x : Page) (changes : List BoardChange) (e : BoardEntry) → pending_of x (changes ++ Prepare e ∷ []) ≡ pending_of x changes ++ e ∷ []
pending_snoc x changes e = ap (λ es. drop (length x.list) x.ahead ++ es) (prepared_snoc changes e) ∙ sym
    (append_assoc (drop (length x.list) x.ahead) (newly_prepared changes) (e ∷ []))

-- the change of an entry was taken in, or came back
abbrev pub Accepts : {A : Type 0} → List BoardChange → List BoardChange → BoardEntry → Result A BoardChange → Type 0
Accepts changes changes' e result = MatchResult result (λ _. changes' ≡ changes ++ Prepare e ∷ []) (λ c. (c ≡ Prepare e) × (changes' ≡ changes))

module _ {A : Type 0} (x : Page) (changes changes' : List BoardChange) (e : BoardEntry) where
  pub accepted_quiet : (result : Result A BoardChange) → Accepts changes changes' e result → is_quiet changes ≡ true → is_quiet changes' ≡ true
  accepted_quiet (Ok u) h quiet = ap is_quiet h ∙ quiet_more changes e quiet
  accepted_quiet (Err c) h quiet = ap is_quiet h.1 ∙ quiet

  pub accepted_lawful : (result : Result A BoardChange) → Accepts changes changes' e result → is_board (x.list ++ pending_of x changes) ≡ true
      → is_board (x.list ++ pending_of x changes ++ e ∷ []) ≡ true
      → is_board (x.list ++ pending_of x changes') ≡ true
  accepted_lawful (Ok u) h lawful more = ap (λ cs. is_board (x.list ++ pending_of x cs)) h ∙
      (ap (λ es. is_board (x.list ++ es)) (pending_snoc x changes e) ∙
      (ap is_board (sym (append_assoc x.list (pending_of x changes) (e ∷ []))) ∙ more))
  accepted_lawful (Err c) h lawful more = ap (λ cs. is_board (x.list ++ pending_of x cs)) h.1 ∙ lawful

pub pending_more : (x : Page) (changes changes' : List BoardChange) (e : BoardEntry) → changes' ≡ changes ++ Prepare e ∷ []
    → pending_of x changes' ≡ pending_of x changes ++ e ∷ []
pending_more x changes changes' e h = ap (pending_of x) h ∙ pending_snoc x changes e

-- entries were prepared, and the list stayed
abbrev pub HasPrepared : Page → Page → List BoardChange → List BoardChange → Type 0
HasPrepared x y changes changes' = ((y.list ≡ x.list) × (y.board ≡ x.board)) ×
    ((y.ahead ++ newly_prepared changes' ≡ x.ahead ++ newly_prepared changes) × IsPrefix x.ahead y.ahead)

pub prepared_twice : (x y z : Page) (cs ds es : List BoardChange) → HasPrepared x y cs ds → HasPrepared y z ds es → HasPrepared x z cs es
prepared_twice x y z cs ds es p q = ((q.0.0 ∙ p.0.0, q.0.1 ∙ p.0.1), (q.1.0 ∙ p.1.0, prefix_trans x.ahead y.ahead z.ahead p.1.1 q.1.1))

module _ (x z : Page) (changes changes' : List BoardChange) (p : HasPrepared x z changes changes') (longer : IsPrefix x.list x.ahead) where
  pub still_longer : IsPrefix z.list z.ahead
  still_longer = subst (λ (l : List BoardEntry). IsPrefix l z.ahead) (sym p.0.0) (prefix_trans x.list x.ahead z.ahead longer p.1.1)

  pub refused : is_quiet changes' ≡ true → IsRefused x changes Memory z changes'
  refused quiet = record {
    memory = refl;
    list = p.0.0;
    board = p.0.1;
    pending = same_pending x z changes changes' longer still_longer p.0.0 p.1.0;
    quiet = quiet;
    longer = still_longer;
  }

  -- all that was accepted is prepared
  pub all_prepared : changes' ≡ [] → z.ahead ≡ x.list ++ pending_of x changes
  all_prepared none = sym (append-nil z.ahead) ∙ (ap (λ cs. z.ahead ++ newly_prepared cs) (sym none) ∙ (p.1.0 ∙ sym (all_ahead x changes longer)))

  pub finished : (result : Result Published Fault) (w : Page) (last : List BoardChange) → changes' ≡ [] → IsFinished z result w last
      → IsPublished x changes result w last
  finished (Ok told) w last none v =
      let all = all_prepared none in record {
        shows = v.0 ∙ (λ i. (all i, all i, p.0.1 i));
        none = v.1;
        news = v.2 ∙ (λ i. record { board = p.0.1 i; list = all i });
      }
  finished (Err fault) w last none v =
      let same = refused (ap is_quiet none) in record {
        memory = v.0;
        list = ap (λ (y : Page). y.list) v.1 ∙ same.list;
        board = ap (λ (y : Page). y.board) v.1 ∙ same.board;
        pending = (λ i. pending_of (v.1 i) ((v.2 ∙ sym none) i)) ∙ same.pending;
        quiet = ap is_quiet v.2;
        longer = subst (λ (y : Page). IsPrefix y.list y.ahead) (sym v.1) same.longer;
      }

drop_all : (es : List BoardEntry) → drop (length es) es ≡ []
drop_all [] = refl
drop_all (e ∷ es) = drop_all es

-- what a contract sees of a writer whose log still has these changes
abbrev pub seen_as : Page → List BoardChange → Publishing
seen_as x changes = record { board = x.board; published = x.list; pending = pending_of x changes }

module _ (x y : Page) (changes changes' : List BoardChange) where
  pub publishing_keeps : (result : Result Published Fault) → IsPublished x changes result y changes' → is_board (x.list ++ pending_of x changes) ≡ true
      → (is_quiet changes' ≡ true) × IsPrefix y.list y.ahead × (is_board (y.list ++ pending_of y changes') ≡ true)
  publishing_keeps (Ok told) v lawful =
      let list : y.list ≡ x.list ++ pending_of x changes = ap (λ (s : BoardState). s.0) v.shows in
      let ahead : y.ahead ≡ x.list ++ pending_of x changes = ap (λ (s : BoardState). s.1) v.shows in
      let longer : IsPrefix y.list y.ahead = subst (IsPrefix y.list) (list ∙ sym ahead) (prefix_self y.list) in
      let all : y.list ++ pending_of y changes' ≡ x.list ++ pending_of x changes = all_ahead y changes' longer ∙
      (ap (λ cs. y.ahead ++ newly_prepared cs) v.none ∙ (append-nil y.ahead ∙ ahead)) in
      (ap is_quiet v.none, longer, ap is_board all ∙ lawful)
  publishing_keeps (Err fault) v lawful = (v.quiet, v.longer, (λ i. is_board (v.list i ++ v.pending i)) ∙ lawful)

  pub publishes_all : (result : Result Published Fault) → IsPublished x changes result y changes'
      → PublishesAll (seen_as x changes) result (seen_as y changes')
  publishes_all (Ok told) v =
      let none : pending_of y changes' ≡ [] = (λ i. drop (length (v.shows i).0) (v.shows i).1 ++ newly_prepared (v.none i)) ∙
      (append-nil (drop (length (x.list ++ pending_of x changes)) (x.list ++ pending_of x changes)) ∙ drop_all (x.list ++ pending_of x changes)) in
      (λ i. record { board = (v.shows i).2; published = (v.shows i).0; pending = none i }, v.news)
  publishes_all (Err fault) v = (v.memory, λ i. record { board = v.board i; published = v.list i; pending = v.pending i })
