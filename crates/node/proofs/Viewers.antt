-- The viewers of a new board answer for the keys of the shard that it was made for.
use Rattle.std.proofs.Common.{◌≡◌, ℕ, List, Result, Ok, Err, IfOk, ap, ◌∙◌, sym}
use Rattle.std.proofs.lemmas.List.Elements.{All-weaker}
use Rattle.units.specs.Keys.{Bytes}
use Rattle.units.specs.declared.setup.Setup.{Setup}
use Rattle.board.specs.declared.entry.BoardEntry.{BoardEntry}
use Rattle.board.specs.Views.{Publishing, Viewing, AreViewers, new_viewer}
use Rattle.node.specs.InStep.{AreOnBoard}

-- what follows from two facts of a value follows where there is one
pub by_both : {T E : Type 0} (r : Result T E) (P Q R : T → Type 0) → ((x : T) → P x → Q x → R x) → IfOk r P → IfOk r Q → IfOk r R
by_both (Ok x) P Q R f p q = f x p q
by_both (Err e) P Q R f p q = p

-- they are of that board and of these keys, and have seen its list
pub are_on_board : (n : ℕ) (setup : Setup) (entries : List BoardEntry) (splits : List Bytes) (p : Publishing) (vs : List Viewing)
    → splits ≡ setup.splits → p.published ≡ entries
    → AreViewers n (new_viewer p.board entries (record { splits = splits; shard = setup.shard })) vs → AreOnBoard n setup p vs
are_on_board n setup entries splits p vs same shown all =
    let w = new_viewer p.board entries (record { splits = splits; shard = setup.shard }) in (
      all.0,
      All-weaker (λ v. v ≡ w)
          (λ v. (v.board ≡ p.board) × (v.seen ≡ p.published) × (v.told ≡ p.published) × (v.home ≡ record { splits = setup.splits; shard = setup.shard }))
          (λ v e. (
            ap (λ (x : Viewing). x.board) e,
            ap (λ (x : Viewing). x.seen) e ∙ sym shown,
            ap (λ (x : Viewing). x.told) e ∙ sym shown,
            ap (λ (x : Viewing). x.home) e ∙ ap (λ (s : List Bytes). record { splits = s; shard = setup.shard }) same,
          )) vs all.1,
    )
