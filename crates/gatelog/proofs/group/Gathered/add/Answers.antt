use Rattle.std.proofs.Common.{◌≡◌, ◌+◌, ◌≤◌, ◌^◌, ◌∙◌, ℕ, List, [], ◌∷◌, ◌++◌, length, reverse, sym, subst, ap, arith}
use Rattle.std.specs.List.{AllByRecursion}
use Rattle.std.proofs.lemmas.List.{reverse-append}
use Rattle.record.specs.declared.record.Record.{Record}
use Rattle.spelling.specs.Limits.{IsRecord}
use Rattle.gatelog.specs.Frames.{end_from, next_gate, staged_bytes}
use Rattle.gatelog.specs.Groups.{Group, group_bytes, opened_before}
use Rattle.gatelog.proofs.Groups.{grown, all_more, end-more}
use Rattle.gatelog.proofs.group.Gathered.add.Goals as goal

pub invariant_of-self-2 : goal.invariant_of-self-2
invariant_of-self-2 c =
    let inside = c.self.inside in
    let items = reverse inside.records.entries in
    let item = c.args.item.now in
    let more : reverse c.add.new.self.entries ≡ items ++ item ∷ [] =
    ap (λ (l : List Record). reverse l) c.add.ensures ∙ reverse-append (item ∷ []) inside.records.entries in
    let grew : c.extend_from_slice.new.self.items ≡ group_bytes items ++ staged_bytes item =
    c.in-Ok.ensures.items ∙ ap (λ (l : List ℕ). l ++ c.deref.result.now) c.self.invariant.0
    ∙ ap (λ (l : List ℕ). group_bytes items ++ l) (c.deref.ensures.value ∙ c.in_ok-frame.ensures.bytes) in
    let size : c.len-before.result ≡ length (group_bytes items) = omega (arith, c.len-before.ensures, ap length c.self.invariant.0) in
    let bytes : c.open_before.new.bytes.items ≡ group_bytes (items ++ item ∷ []) =
    c.open_before.ensures ∙ ap (λ (n : ℕ). opened_before n c.extend_from_slice.new.self.items) size
    ∙ ap (λ (l : List ℕ). opened_before (length (group_bytes items)) l) grew ∙ grown items item in
    let there : end_from inside.gate (items ++ item ∷ []) + 1 ≤ 2 ^ 40 =
    omega (arith, end-more items item inside.gate, ap (λ (g : Group). next_gate (end_from g.gate g.items) item) c.self.view_is, c.requires) in (
      bytes ∙ ap group_bytes (sym more),
      subst (λ (l : List Record). AllByRecursion IsRecord l) (sym more) (all_more items item c.self.invariant.1 c.in_ok-frame.ensures.fits),
      λ some. subst (λ (l : List Record). end_from inside.gate l + 1 ≤ 2 ^ 40) (sym more) there,
    )
