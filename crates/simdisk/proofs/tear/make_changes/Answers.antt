use Rattle.std.proofs.Common.{◌≡◌, ◌+◌, ℕ, length, get_or, List, take, drop, refl, sym, ap, ◌∙◌, arith}
use Rattle.std.proofs.lemmas.List.{length-drop, drop-drop}
use Rattle.disk.specs.declared.plan.Fate.{Fate}
use Rattle.disk.specs.File.{File, by_fate}
use Rattle.simdisk.specs.declared.change.Change.{Change}
use Rattle.simdisk.specs.declared.change.Change.TheVariants.{Write, Tried, Cut}
use Rattle.simdisk.specs.declared.tear.Fates.{Fates}
use Rattle.simdisk.specs.declared.tear.Fates.TheVariants.{AsSeen, Given}
use Rattle.simdisk.specs.Fates.{fate_at, made_by}
use Rattle.simdisk.specs.Replay.{kept, size, with_made, made, settled, file_at, bytes_in_all}
use Rattle.simdisk.proofs.Histories.{total-more, total-fits, file-more, end-within, count-at}
use Rattle.simdisk.proofs.tear.make_changes.Goals as goal

abbrev none : Change
none = Write 0 0

-- with no change, it is what the last sync left
made-none : (fates : Fates) (base : List ℕ) → made_by fates (settled base) ≡ base
made-none AsSeen base = refl
made-none (Given given) base = refl

-- one change more is made by its fate
made-more : (fates : Fates) (change : Change) (bytes : List ℕ) (file : File) → by_fate (fate_at fates (length file.changes) change)
    (made change bytes) (made_by fates file) ≡ made_by fates (with_made change bytes file)
made-more AsSeen (Write at count) bytes file = refl
made-more AsSeen (Tried at count) bytes file = refl
made-more AsSeen (Cut len) bytes file = refl
made-more (Given given) change bytes file = refl

pub loop-made-init : goal.loop-made-init
loop-made-init c = record {
  image = sym (made-none c.args.fates c.args.image.now.items);
  rest = refl;
  len = omega arith;
  capacity = omega arith;
}

pub split_at-requires : goal.split_at-requires
split_at-requires c =
    let changes = c.args.changes.now in
    let at = c.loop-made.made in
    omega (
      arith,
      c.count.ensures,
      c.requires.stored,
      ap length c.loop-made.invariant.rest,
      length-drop (bytes_in_all (take at changes)) c.args.store.now,
      total-fits changes at none c.loop-made-test.true,
    )

pub change_by_fate-requires : goal.change_by_fate-requires
change_by_fate-requires c =
    let changes = c.args.changes.now in
    let at = c.loop-made.made in
    record {
      bytes = omega (arith, c.count.ensures, c.split_at.ensures.front_len);
      room = omega (arith, c.requires.room, end-within changes at none c.loop-made-test.true, c.loop-made.invariant.capacity);
    }

pub loop-made-preserved : goal.loop-made-preserved
loop-made-preserved c =
    let h = kept c.args.image.now.items c.args.changes.now c.args.store.now in
    let at = c.loop-made.made in
    let change = get_or h.changes at none in
    let lt = c.loop-made-test.true in
    let rest = c.loop-made.invariant.rest in
    let file = file_at h at in
    let fates = c.args.fates in
    let text = c.split_at.result.0.now in
    let bytes : text ≡ take (size change) (drop (bytes_in_all (take at h.changes)) h.store) =
    c.split_at.ensures.front ∙ ap (λ (n : ℕ). take n c.loop-made.rest.now) c.count.ensures ∙ ap (λ (l : List ℕ). take (size change) l) rest in
    let more : with_made change text file ≡ file_at h (at + 1) = ap (λ (l : List ℕ). with_made change l file) bytes ∙ sym (file-more h at none lt) in
    let place : c.fate_of-fate.result ≡ fate_at fates (length file.changes) change = c.fate_of-fate.ensures
    ∙ ap (λ (n : ℕ). fate_at fates n change) (sym (count-at h at (omega (arith, lt)))) in
    record {
      image = c.change_by_fate.ensures.image
          ∙ ap (λ (t : Fate). by_fate t (made change text) c.loop-made.image.items) place
          ∙ ap (λ (l : List ℕ). by_fate (fate_at fates (length file.changes) change) (made change text) l) c.loop-made.invariant.image
          ∙ made-more fates change text file
          ∙ ap (λ (f : File). made_by fates f) more;
      rest = c.split_at.ensures.back ∙ ap (λ (n : ℕ). drop n c.loop-made.rest.now) c.count.ensures ∙ ap (λ (l : List ℕ). drop (size change) l) rest
          ∙ drop-drop (size change) (bytes_in_all (take at h.changes)) h.store ∙ ap (λ (n : ℕ). drop n h.store) (sym (total-more h.changes at none lt));
      len = omega (arith, c.change_by_fate.ensures.len, end-within h.changes at none lt, c.loop-made.invariant.len);
      capacity = omega (arith, c.change_by_fate.ensures.capacity, c.loop-made.invariant.capacity);
    }
