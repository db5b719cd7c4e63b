-- What a desk keeps of its core and its board.
use Rattle.std.proofs.Common.{Result, Ok, Err, IfOk, ◌≡◌, ℕ, ◌+◌, ◌<◌, ◌≤◌, true, List, [], ◌∷◌, ◌++◌, length, drop, get_or}
use Rattle.std.proofs.Common.{nat_lt, refl, ap, sym, ◌∙◌, subst, arith, append_assoc, length-append, drop_of_length-le}
use Rattle.std.specs.List.{list_all}
use Rattle.std.proofs.lemmas.List.{append-nil, drop_more, drop-append-le}
use Rattle.units.specs.declared.fault.Fault.{Fault}
use Rattle.units.specs.declared.writes.Install.{Install}
use Rattle.board.specs.declared.entry.BoardEntry.{BoardEntry}
use Rattle.board.specs.declared.entry.BoardEntry.TheVariants.{Installed, Safe, Horizon}
use Rattle.board.specs.Board.{versions_on, safe_on, horizon_on, is_board, horizon_entries, first_entries}
use Rattle.board.specs.Views.{Publishing, Published, PublishesAll}
use Rattle.board.proofs.Longer.{front_is_board, versions_on-more, horizon_on-more, safe_from-install, safe_from-safe, safe_from-horizon}
use Rattle.protocol.specs.Showable.{rises_by_key}
use Rattle.board.proofs.First.{opening_horizon, opening_versions, versions_on-entries}
use Rattle.node.proofs.Follow.{rise_alike, board_news, board_safe, board_horizon, opening_is_board, as_entries-more, safe_from-more_entries, entries_follow}
use Rattle.ledger.proofs.Alike.{same-append}
use Rattle.protocol.proofs.Rising.{Alike}
use Rattle.units.specs.Versions.{of_key}
use Rattle.versions.specs.Places.{SameVersions}
use Rattle.versions.proofs.Newest.{above_newest, was_before}
use Rattle.versions.proofs.Same.{same-higher, same-then}
use Rattle.node.specs.InStep.{InStep, ShowsAll, as_entries}

same_itself : (h : ℕ) (installs : List Install) → SameVersions h installs installs
same_itself h installs = record { now = λ k. refl; at = λ k t le. refl }

-- an entry that is no version comes
other_entry : (installs : List Install) (handed horizon : ℕ) (es more : List BoardEntry) → versions_on more ≡ []
    → SameVersions horizon (versions_on es ++ drop handed installs) installs → SameVersions horizon (versions_on (es ++ more) ++ drop handed installs) installs
other_entry installs handed horizon es more none same =
    let still : versions_on (es ++ more) ≡ versions_on es =
    versions_on-more es more ∙ (ap (λ (l : List Install). versions_on es ++ l) none ∙ append-nil (versions_on es)) in
    subst (λ (l : List Install). SameVersions horizon (l ++ drop handed installs) installs) (sym still) same

pub opened_in_step : (installs : List Install) (t h : ℕ) → rises_by_key [] installs ≡ true → InStep installs t (length installs) h
    (first_entries installs t h ++ [])
opened_in_step installs t h order =
    let none : drop (length installs) installs ≡ [] = drop_of_length-le installs (omega arith) in
    let all : first_entries installs t h ++ [] ≡ first_entries installs t h = append-nil (first_entries installs t h) in
    let list : versions_on (first_entries installs t h ++ []) ++ drop (length installs) installs ≡ installs =
    (λ i. (ap versions_on all ∙ opening_versions installs t h) i ++ none i) ∙ append-nil installs in
    record {
      count = omega arith;
      same = subst (λ (l : List Install). SameVersions h l installs) (sym list) (same_itself h installs);
      lawful = ap (λ (rest : List Install). is_board ((first_entries installs t h ++ []) ++ as_entries rest)) none ∙
          (ap is_board (append-nil (first_entries installs t h ++ []) ∙ all) ∙ opening_is_board installs t h (entries_follow [] installs order));
      safe = omega (arith, ap safe_on all, safe_from-safe 0 (as_entries installs ++ horizon_entries h) t);
      horizon = omega (arith, ap horizon_on all, opening_horizon installs t h);
    }

-- the next version of the core is handed over
module _ (installs : List Install) (served handed horizon : ℕ) (es : List BoardEntry) (i d : Install) (step : InStep installs served handed horizon es)
    (left : handed < length installs) (is : get_or installs handed d ≡ i) where
  split : drop handed installs ≡ i ∷ drop (handed + 1) installs
  split = drop_more installs handed d left ∙ ap (λ (x : Install). x ∷ drop (handed + 1) installs) is

  rest_split : es ++ as_entries (drop handed installs) ≡ (es ++ Installed i ∷ []) ++ as_entries (drop (handed + 1) installs)
  rest_split =
      ap (λ (l : List Install). es ++ as_entries l) split ∙ sym (append_assoc es (Installed i ∷ []) (as_entries (drop (handed + 1) installs)))

  same_list : versions_on (es ++ Installed i ∷ []) ++ drop (handed + 1) installs ≡ versions_on es ++ drop handed installs
  same_list =
      ap (λ (l : List Install). l ++ drop (handed + 1) installs) (versions_on-more es (Installed i ∷ []))
      ∙ append_assoc (versions_on es) (i ∷ []) (drop (handed + 1) installs)
      ∙ ap (λ (l : List Install). versions_on es ++ l) (sym split)

  pub one_handed : InStep installs served (handed + 1) horizon (es ++ Installed i ∷ [])
  one_handed = record {
    count = omega (arith, left);
    same = subst (λ (l : List Install). SameVersions horizon l installs) (sym same_list) step.same;
    lawful = ap is_board (sym rest_split) ∙ step.lawful;
    safe = omega (arith, step.safe, safe_from-install 0 es i);
    horizon = omega (arith, step.horizon, horizon_on-more es (Installed i ∷ []));
  }

  pub one_horizon : horizon_on (es ++ Installed i ∷ []) ≡ horizon_on es
  one_horizon = omega (arith, horizon_on-more es (Installed i ∷ []))

  pub one_lawful : is_board (es ++ Installed i ∷ []) ≡ true
  one_lawful = front_is_board (es ++ Installed i ∷ []) (as_entries (drop (handed + 1) installs)) (ap is_board (sym rest_split) ∙ step.lawful)

-- where all versions are handed over, the horizon and the served time may follow
module _ (installs : List Install) (served handed horizon : ℕ) (es : List BoardEntry) (step : InStep installs served handed horizon es)
    (all : handed ≡ length installs) where
  all_gone : drop handed installs ≡ []
  all_gone = drop_of_length-le installs (omega (arith, all))

  pub all_lawful : is_board es ≡ true
  all_lawful = ap is_board (sym (ap (λ (l : List Install). es ++ as_entries l) all_gone ∙ append-nil es)) ∙ step.lawful

  pub safe_lawful : is_board (es ++ Safe served ∷ []) ≡ true
  safe_lawful = board_safe es served all_lawful step.safe

  pub horizon_lawful : is_board (es ++ Horizon horizon ∷ []) ≡ true
  horizon_lawful = board_horizon es horizon all_lawful step.horizon

  pub horizon_handed : InStep installs served handed horizon (es ++ Horizon horizon ∷ [])
  horizon_handed = record {
    count = step.count;
    same = other_entry installs handed horizon es (Horizon horizon ∷ []) refl step.same;
    lawful = ap (λ (l : List Install). is_board ((es ++ Horizon horizon ∷ []) ++ as_entries l)) all_gone ∙
        (ap is_board (append-nil (es ++ Horizon horizon ∷ [])) ∙ horizon_lawful);
    safe = omega (arith, step.safe, safe_from-horizon 0 es horizon);
    horizon = omega (arith, step.horizon, horizon_on-more es (Horizon horizon ∷ []));
  }

  pub horizon_raised : horizon_on (es ++ Horizon horizon ∷ []) ≡ horizon
  horizon_raised = omega (arith, step.horizon, horizon_on-more es (Horizon horizon ∷ []))

  pub safe_handed : InStep installs served handed horizon (es ++ Safe served ∷ [])
  safe_handed = record {
    count = step.count;
    same = other_entry installs handed horizon es (Safe served ∷ []) refl step.same;
    lawful = ap (λ (l : List Install). is_board ((es ++ Safe served ∷ []) ++ as_entries l)) all_gone ∙
        (ap is_board (append-nil (es ++ Safe served ∷ [])) ∙ safe_lawful);
    safe = omega (arith, safe_from-safe 0 es served);
    horizon = omega (arith, step.horizon, horizon_on-more es (Safe served ∷ []));
  }

  pub all_shown : SameVersions horizon (versions_on (es ++ Safe served ∷ [])) installs
  all_shown =
      let shown = versions_on (es ++ Safe served ∷ []) in
      subst (λ (l : List Install). SameVersions horizon l installs) (ap (λ (l : List Install). shown ++ l) all_gone ∙ append-nil shown) safe_handed.same

  -- and so may versions go that the horizon passed
  pub let_go_in_step : (held : List Install) → SameVersions horizon installs held → InStep held served (length held) horizon es
  let_go_in_step held same =
      let none : drop (length held) held ≡ [] = drop_of_length-le held (omega arith) in
      record {
        count = omega arith;
        same =
            subst (λ (l : List Install). SameVersions horizon (versions_on es ++ l) held) (sym none)
            (same-then horizon (versions_on es ++ []) installs held
            (subst (λ (l : List Install). SameVersions horizon (versions_on es ++ l) installs) all_gone step.same) same);
        lawful = ap (λ (l : List Install). is_board (es ++ as_entries l)) none ∙ (ap is_board (append-nil es) ∙ all_lawful);
        safe = step.safe;
        horizon = step.horizon;
      }

-- lists with the same newest versions are below the same timestamps
below_same : (h : ℕ) (a b : List Install) → SameVersions h a b → Alike a b
below_same h a b same key at = above_newest at (of_key a key) ∙ ap (was_before at) (same.now key) ∙ sym (above_newest at (of_key b key))

-- new versions of the core
module _ (installs news more : List Install) (handed horizon : ℕ) (es : List BoardEntry) (behind : more ≡ installs ++ news)
    (count : handed ≤ length installs) (same : SameVersions horizon (versions_on es ++ drop handed installs) installs) where
  pub count_kept : handed ≤ length more
  count_kept = omega (arith, count, length-append installs news, ap length behind)

  grown : drop handed more ≡ drop handed installs ++ news
  grown = ap (drop handed) behind ∙ drop-append-le handed installs news count

  pub same_kept : (later : ℕ) → horizon ≤ later → SameVersions later (versions_on es ++ drop handed more) more
  same_kept later le =
      let list : versions_on es ++ drop handed more ≡ (versions_on es ++ drop handed installs) ++ news =
      ap (λ (l : List Install). versions_on es ++ l) grown ∙ sym (append_assoc (versions_on es) (drop handed installs) news) in
      same-higher horizon later (versions_on es ++ drop handed more) more le
      (subst (λ (l : List Install). SameVersions horizon l more) (sym list)
      (subst (λ (l : List Install). SameVersions horizon ((versions_on es ++ drop handed installs) ++ news) l) (sym behind)
      (same-append horizon (versions_on es ++ drop handed installs) installs news same)))

  pub lawful_kept : (served : ℕ) → is_board (es ++ as_entries (drop handed installs)) ≡ true → safe_on es ≤ served
      → list_all (λ i. nat_lt served i.at) news ≡ true → rises_by_key installs news ≡ true → is_board
      (es ++ as_entries (drop handed more)) ≡ true
  lawful_kept served lawful safe above order =
      let xs = es ++ as_entries (drop handed installs) in
      let split : es ++ as_entries (drop handed more) ≡ xs ++ as_entries news =
      ap (λ (l : List Install). es ++ as_entries l) grown ∙
      (ap (λ (l : List BoardEntry). es ++ l) (as_entries-more (drop handed installs) news) ∙ sym
      (append_assoc es (as_entries (drop handed installs)) (as_entries news))) in
      let listed = versions_on es ++ drop handed installs in
      let all : versions_on xs ≡ listed = versions_on-more es (as_entries (drop handed installs)) ∙
      ap (λ (l : List Install). versions_on es ++ l) (versions_on-entries (drop handed installs)) in
      let rising : rises_by_key listed news ≡ true = rise_alike installs listed news (λ key at. sym (below_same horizon listed installs same key at)) order in
      let low : safe_on xs ≤ served = omega (arith, safe, safe_from-more_entries 0 es (drop handed installs)) in
      ap is_board split ∙ board_news xs listed news served lawful all low above (entries_follow listed news rising)

-- ---- publishing

-- a publication leaves all entries
pub all_published : (result : Result Published Fault) (old new : Publishing) → PublishesAll old result new
    → new.published ++ new.pending ≡ old.published ++ old.pending
all_published (Ok told) old new is = ap (λ (s : Publishing). s.published ++ s.pending) is.0 ∙ append-nil (old.published ++ old.pending)
all_published (Err fault) old new is = ap (λ (s : Publishing). s.published ++ s.pending) is.1

-- the entries that are published are those of a core, and its served time
module _ (installs : List Install) (served handed horizon : ℕ) (one two new : Publishing)
    (step : InStep installs served handed horizon (one.published ++ one.pending)) (all : handed ≡ length installs)
    (ends : two ≡ record one { pending = one.pending ++ Safe served ∷ [] }) where
  with_safe : two.published ++ two.pending ≡ (one.published ++ one.pending) ++ Safe served ∷ []
  with_safe = ap (λ (s : Publishing). s.published ++ s.pending) ends ∙ sym (append_assoc one.published one.pending (Safe served ∷ []))

  pub published_in_step : (result : Result Published Fault) → PublishesAll two result new → InStep installs served handed horizon
      (new.published ++ new.pending)
  published_in_step result is =
      subst (λ (l : List BoardEntry). InStep installs served handed horizon l) (sym (all_published result two new is ∙ with_safe))
      (safe_handed installs served handed horizon (one.published ++ one.pending) step all)

  -- the served time and a publication leave the horizon
  published_horizon : (es : List BoardEntry) → es ≡ two.published ++ two.pending → horizon_on es ≡ horizon_on (one.published ++ one.pending)
  published_horizon es is =
      omega (arith, ap horizon_on (is ∙ with_safe), horizon_on-more (one.published ++ one.pending) (Safe served ∷ []))

  pub horizon_stays : (told : ℕ) (result : Result Published Fault) → horizon_on (one.published ++ one.pending) ≡ told → PublishesAll two result new
      → horizon_on (new.published ++ new.pending) ≡ told
  horizon_stays told result same is = published_horizon (new.published ++ new.pending) (all_published result two new is) ∙ same

  -- what is published is shown
  pub published_shows : (old : Publishing) → (one.published ≡ old.published) × (one.board ≡ old.board)
      → horizon_on (one.published ++ one.pending) ≡ horizon → (result : Result Published Fault)
      → PublishesAll two result new → IfOk result (λ told. ShowsAll installs served horizon old new told)
  published_shows old same raised (Err fault) is = tt
  published_shows old same raised (Ok told) is =
      let list : new.published ≡ two.published ++ two.pending = ap (λ (s : Publishing). s.published) is.0 in
      let board : two.board ≡ old.board = ap (λ (s : Publishing). s.board) ends ∙ same.1 in
      record {
        installs =
            subst (λ (l : List BoardEntry). SameVersions horizon (versions_on l) installs) (sym (list ∙ with_safe))
            (all_shown installs served handed horizon (one.published ++ one.pending) step all);
        ends = (one.published ++ one.pending, list ∙ with_safe);
        horizon = published_horizon new.published list ∙ raised;
        same = ap (λ (s : Publishing). s.board) is.0 ∙ board;
        told = is.1 ∙ (λ i. record { board = board i; list = sym list i });
      }

-- a new board is in step, and was told the horizon
module _ (installs given held : List Install) (t at h from : ℕ) (published pending : List BoardEntry) (order : rises_by_key [] installs ≡ true)
    (same : held ≡ installs) (also : given ≡ installs) (then : at ≡ t) (below : from ≡ h) (shown : published ≡ first_entries given at from)
    (none : pending ≡ []) where
  new_entries : published ++ pending ≡ first_entries installs t h ++ []
  new_entries i = (shown ∙ (λ j. first_entries (also j) (then j) (below j))) i ++ none i

  pub opened_desk : InStep installs t (length held) h (published ++ pending)
  opened_desk =
      subst (λ (n : ℕ). InStep installs t n h (published ++ pending)) (sym (ap length same))
      (subst (λ (l : List BoardEntry). InStep installs t (length installs) h l) (sym new_entries) (opened_in_step installs t h order))

  pub opened_told : horizon_on (published ++ pending) ≡ from
  opened_told = ap horizon_on (new_entries ∙ append-nil (first_entries installs t h)) ∙ (opening_horizon installs t h ∙ sym below)
