use Rattle.std.proofs.Common.{◌∙◌, ◌++◌, ◌∷◌, [], Some, ap, arith}
use Rattle.moving.specs.Exports.{Page, least, text}
use Rattle.moving.proofs.Told.{counted_on, paged_on, wrote_on}
use Rattle.moving.proofs.exporting.export.Goals as goal

pub loop-page-preserved : goal.loop-page-preserved
loop-page-preserved g c =
    let was = c.loop-page.invariant in
    let pages = was.2.0 in
    let page : Page = record { pairs = c.in_ok-pairs.pairs.items; next = c.in_ok-pairs.after } in
    let bytes = c.deref-in-loop-page-2.ensures.value ∙ c.in_ok-text.ensures ∙ ap (text c.args.form) c.deref-in-loop-page.ensures.value in (
      c.page_from.ensures.at ∙ was.0,
      c.page_from.ensures.splits ∙ was.1,
      (
        pages ++ page ∷ [],
        paged_on _ _ _ _ _ _ _ (Some least) pages _ c.in-Some.from page was.1 was.0 c.in-Some.is was.2.1 c.in_ok-pairs.ensures.page,
        wrote_on _ _ _ c.args.form pages page _ bytes was.2.2 c.in_ok-print_bytes-2.ensures.printed,
        omega (arith, counted_on pages page, was.2.3, c.len.ensures, c.in-Some-checked_add.ensures),
      ),
    )
