-- Viewers that are dealt to workers, node by node.
use Rattle.std.proofs.Common.{◌≡◌, ℕ, List, [], ◌∷◌, ◌++◌, map, Result, Ok, Err, refl, sym, ap, subst}
use Rattle.std.specs.List.{AllZip}
use Rattle.std.proofs.lemmas.Bool.{false≢true}
use Rattle.std.proofs.lemmas.List.Elements.{All-weaker}
use Rattle.units.specs.Keys.{Bytes}
use Rattle.units.specs.declared.fault.Fault.{Fault}
use Rattle.units.specs.declared.setup.Setup.{Setup}
use Rattle.disk.specs.declared.plan.FailurePlan.{FailurePlan}
use Rattle.disk.specs.File.{File}
use Rattle.board.specs.Board.{first_entries}
use Rattle.board.specs.Dealing.{AreDealt}
use Rattle.board.specs.Views.{AreViewers, Viewing}
use Rattle.shard.specs.Look.{safe_at}
use Rattle.shard.specs.On.{CoreView}
use Rattle.shard.specs.Opened.{HasOpened}
use Rattle.node.specs.Dealt.{AreDealtOver, HasViewers, ShowsDisk}
use Rattle.node.specs.InStep.{home_of}
use Rattle.node.specs.Openings.{IsMade}
use Rattle.node.specs.Restart.{AreOnNewBoard}
use Rattle.node.specs.Together.{AreMade, AreSetups}
use Rattle.node.specs.declared.fleet.Made.{Made}

-- what is zipped with a list that ends so
last_zipped : {A B : Type 0} (R : A → B → Type 0) (xs : List A) (x : A) (ys : List B) → AllZip R (xs ++ x ∷ []) ys
    → (zs : List B) × (z : B) × (ys ≡ zs ++ z ∷ []) × AllZip R xs zs × R x z
last_zipped R [] x [] pairs = absurd pairs
last_zipped R [] x (y ∷ []) pairs = ([], y, refl, tt, pairs.0)
last_zipped R [] x (y ∷ z ∷ ys) pairs = absurd pairs.1
last_zipped R (w ∷ xs) x [] pairs = absurd pairs
last_zipped {B = B} R (w ∷ xs) x (y ∷ ys) pairs =
    let rest = last_zipped R xs x ys pairs.1 in
    (y ∷ rest.0, rest.1, ap (λ (l : List B). y ∷ l) rest.2, (pairs.0, rest.3), rest.4)

pub none_dealt : (N : Type 0) (n : ℕ) (start : List (List Viewing)) (all : List Viewing) → AllZip (HasViewers {N = N} n) [] all → AreDealt [] start
    → AreDealt all start
none_dealt N n start [] pairs dealt = dealt
none_dealt N n start (v ∷ all) pairs dealt = absurd pairs

module _ {N : Type 0} where
  -- one node more
  pub more_dealt : (made : List (Result (Made N) Fault)) (one : Result (Made N) Fault) (n m : ℕ) (start old new : List (List Viewing)) → m ≡ n
      → ((all : List Viewing) → AllZip (HasViewers n) made all → AreDealt [] start → AreDealt all old)
      → ((all : List Viewing) (v : Viewing) → AreDealt all old → HasViewers m one v → AreDealt (all ++ v ∷ []) new)
      → (all : List Viewing) → AllZip (HasViewers n) (made ++ one ∷ []) all → AreDealt [] start → AreDealt all new
  more_dealt made one n m start old new same was add all pairs none =
      let last = last_zipped (HasViewers n) made one all pairs in
      subst (λ (l : List Viewing). AreDealt l new) (sym last.2)
      (add last.0 last.1 (was last.0 last.3 none) (subst (λ (k : ℕ). HasViewers k one last.1) (sym same) last.4))

module _ {D : Type 0} (keeps obeys : Type 0) (file : D → File) (clock : D → ℕ) (since : D → ℕ → List ℕ → Type 0) (failures : D → ℕ)
    (plan : D → FailurePlan) where
  -- the viewers of a new board are alike
  pub one_shown : (given : D × Setup) (core : CoreView D) (n : ℕ) (views : List Viewing)
      → HasOpened keeps obeys file clock since failures plan given.0 given.1 core
      → AreOnNewBoard n core.setup (first_entries core.facts.installs (safe_at core) core.facts.horizon) views
      → (v : Viewing) × AreViewers n v views × ShowsDisk keeps obeys file clock since failures plan given v
  one_shown given core n views opened on =
      let p = on.0 in
      let v : Viewing = record { board = p.board; seen = p.published; told = p.published; home = home_of core.setup } in (
        v,
        (
          on.2.0,
          All-weaker (λ w. (w.board ≡ p.board) × (w.seen ≡ p.published) × (w.told ≡ p.published) × (w.home ≡ home_of core.setup)) (λ w. w ≡ v)
              (λ w is i. record { board = is.0 i; seen = is.1 i; told = is.2 i; home = is.3 i }) views on.2.1,
        ),
        record { core = core; opened = opened; seen = on.1.0; told = refl; home = ap home_of opened.setup },
      )

  module _ {N : Type 0} (n : ℕ) where
    viewers_over : (told : List (D × Setup)) (all : List (Result (Made N) Fault))
        → AllZip (IsMade keeps obeys file clock since failures plan n) told all → AreMade all
        → (vs : List Viewing) × AllZip (ShowsDisk keeps obeys file clock since failures plan) told vs × AllZip (HasViewers n) all vs
    viewers_over [] [] each made = ([], tt, tt)
    viewers_over [] (one ∷ all) each made = absurd each
    viewers_over (t ∷ ts) [] each made = absurd each
    viewers_over (t ∷ ts) (Err fault ∷ all) each made = absurd (false≢true made.0)
    viewers_over (t ∷ ts) (Ok one ∷ all) each made =
        let rest = viewers_over ts all each.1 made.1 in
        (each.0.viewer ∷ rest.0, (each.0.shown, rest.1), (each.0.viewers, rest.2))

    pub dealt_over : (splits : List Bytes) (stride : ℕ) (told : List (D × Setup)) (disks : List D) (all : List (Result (Made N) Fault))
        (lists : List (List Viewing))
        → AllZip (IsMade keeps obeys file clock since failures plan n) told all → map (λ (one : D × Setup). one.0) told ≡ disks
        → AreSetups splits stride 0 told → AreMade all → ((vs : List Viewing) → AllZip (HasViewers n) all vs → AreDealt vs lists)
        → AreDealtOver keeps obeys file clock since failures plan splits stride disks lists
    dealt_over splits stride told disks all lists each same setups made dealt =
        let found = viewers_over told all each made in
        record { given = told; of = same; setups = setups; viewers = found.0; shown = found.1; dealt = dealt found.0 found.2 }
