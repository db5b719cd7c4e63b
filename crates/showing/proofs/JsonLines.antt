-- What is told as JSON of writes, of entries and of transactions in doubt, one at a time.
use Rattle.std.proofs.Common.{◌≡◌, ◌∙◌, ◌++◌, ◌∷◌, ◌+◌, ◌<◌, [], ℕ, suc, Bool, List, length, map, take, slice_index_or, append-nil, append_assoc}
use Rattle.std.proofs.Common.{ap, ap₂, arith, codes, flat_map, get_or, length-append, sym}
use Rattle.std.specs.Prelude.{if◌then◌else◌}
use Rattle.std.proofs.lemmas.Bool.{le-ltb, lt-ltb}
use Rattle.std.proofs.lemmas.Grind.{flat_map-append}
use Rattle.std.proofs.lemmas.List.{length-map, map-append, take_more}
use Rattle.frames.specs.Placed.{Placed}
use Rattle.showing.specs.Json.{AreWrites, Dated, line_json}
use Rattle.showing.specs.JsonTexts.{AreDoubts, AreEntries, DatedDoubt, after_comma, commas, doubt_json, entry_json, mark_after}
use Rattle.showing.specs.declared.stats.InDoubt.{InDoubt}
use Rattle.showing.specs.declared.told.Told.{Told}

pub write_more : (told : List Told) (i : ℕ) (e : Told) (date t t' : List ℕ) → i < length told → e ≡ slice_index_or told i e
    → AreWrites (take i told) t → t' ≡ t ++ line_json (record { told = e; date = date }) → AreWrites (take (i + 1) told) t'
write_more told i e date t t' small is so_far more =
    let one : Dated = record { told = e; date = date } in
    record {
      rows = so_far.rows ++ one ∷ [];
      told =
          map-append (λ (r : Dated). r.told) so_far.rows (one ∷ []) ∙ ap (λ (a : List Told). a ++ e ∷ []) so_far.told
          ∙ ap (λ (x : Told). take i told ++ x ∷ []) is ∙ sym (take_more told i e small);
      lines =
          more ∙ ap (λ b. b ++ line_json one) so_far.lines
          ∙ sym (flat_map-append line_json so_far.rows (one ∷ []) ∙ ap (λ b. flat_map line_json so_far.rows ++ b) (append-nil (line_json one)));
    }

pub entry_more : (entries : List Placed) (i : ℕ) (e : Placed) (words t t' : List ℕ) → i < length entries → e ≡ slice_index_or entries i e
    → AreEntries (take i entries) t → t' ≡ t ++ entry_json (e.offset, words) → AreEntries (take (i + 1) entries) t'
entry_more entries i e words t t' small is so_far more =
    let one : ℕ × List ℕ = (e.offset, words) in
    record {
      rows = so_far.rows ++ one ∷ [];
      offsets =
          map-append (λ (r : ℕ × List ℕ). r.0) so_far.rows (one ∷ []) ∙ ap (λ (a : List ℕ). a ++ e.offset ∷ []) so_far.offsets
          ∙ ap (λ (x : Placed). map (λ (y : Placed). y.offset) (take i entries) ++ x.offset ∷ []) is
          ∙ sym (ap (map (λ (y : Placed). y.offset)) (take_more entries i e small)
          ∙ map-append (λ (y : Placed). y.offset) (take i entries) (get_or entries i e ∷ []));
      lines =
          more ∙ ap (λ b. b ++ entry_json one) so_far.lines
          ∙ sym (flat_map-append entry_json so_far.rows (one ∷ []) ∙ ap (λ b. flat_map entry_json so_far.rows ++ b) (append-nil (entry_json one)));
    }

-- one text more behind a comma, unless it is the first
pub commas_more : (texts : List (List ℕ)) (text : List ℕ) → commas (texts ++ text ∷ []) ≡ commas texts ++ (mark_after (length texts) ++ text)
commas_more [] text = append-nil text ∙ ap (λ (b : Bool). (if b then codes "," else []) ++ text) (sym (le-ltb 0 0 (omega arith)))
commas_more (first ∷ texts) text =
    ap (λ (b : List ℕ). first ++ b)
    (flat_map-append after_comma texts (text ∷ []) ∙ ap (λ (b : List ℕ). flat_map after_comma texts ++ b) (append-nil (after_comma text)))
    ∙ sym (append_assoc first (flat_map after_comma texts) (after_comma text))
    ∙ ap (λ (b : Bool). (first ++ flat_map after_comma texts) ++ ((if b then codes "," else []) ++ text)) (sym (lt-ltb 0 (suc (length texts)) (omega arith)))

-- and then a comma stands before the next
pub mark_more : {X : Type 0} (xs : List X) (x : X) → codes "," ≡ mark_after (length (xs ++ x ∷ []))
mark_more xs x =
    ap (λ (b : Bool). if b then codes "," else [])
    (sym (lt-ltb 0 (length (xs ++ x ∷ [])) (omega (arith, length-append xs (x ∷ [])))))

pub doubt_more : (doubts : List InDoubt) (i : ℕ) (e : InDoubt) (date mark t t1 t' : List ℕ) → i < length doubts → e ≡ slice_index_or doubts i e
    → (so_far : AreDoubts (take i doubts) t) → mark ≡ mark_after (length so_far.rows)
    → t1 ≡ t ++ mark → t' ≡ t1 ++ doubt_json (record { doubt = e; date = date })
    → (now : AreDoubts (take (i + 1) doubts) t') × (codes "," ≡ mark_after (length now.rows))
doubt_more doubts i e date mark t t1 t' small is so_far marked first more =
    let one : DatedDoubt = record { doubt = e; date = date } in (
      record {
        rows = so_far.rows ++ one ∷ [];
        told =
            map-append (λ (r : DatedDoubt). r.doubt) so_far.rows (one ∷ []) ∙ ap (λ (a : List InDoubt). a ++ e ∷ []) so_far.told
            ∙ ap (λ (x : InDoubt). take i doubts ++ x ∷ []) is ∙ sym (take_more doubts i e small);
        whole =
            more ∙ ap (λ (a : List ℕ). a ++ doubt_json one) first ∙ append_assoc t mark (doubt_json one)
            ∙ ap₂ (λ (a m : List ℕ). a ++ (m ++ doubt_json one)) so_far.whole (marked ∙ ap mark_after (sym (length-map so_far.rows doubt_json)))
            ∙ sym (commas_more (map doubt_json so_far.rows) (doubt_json one)) ∙ ap commas (sym (map-append doubt_json so_far.rows (one ∷ [])));
      },
      mark_more so_far.rows one,
    )
