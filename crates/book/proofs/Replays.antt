-- One page more at the end of a book.
use Rattle.std.proofs.Common.{◌≡◌, ◌∙◌, List, [], ◌∷◌, ◌++◌, Option, Some, refl, sym, ap}
use Rattle.units.specs.declared.setup.Setup.{Setup}
use Rattle.record.specs.declared.record.Record.{Record}
use Rattle.protocol.specs.Rows.{Memory}
use Rattle.protocol.specs.Replay.{BookEntry, Stand, IsReplay, replayed, after_step, step_kept, outbox_put_out}
use Rattle.protocol.specs.Step.{Stepped, Does}
use Rattle.book.specs.Books.{BookView, PageIsStep, Replays, opening_left}

replayed-page : (setup : Setup) (s : Stand) (pages : List BookEntry) (page : BookEntry)
    → replayed setup s (pages ++ page ∷ []) ≡ after_step (replayed setup s pages) (step_kept setup (replayed setup s pages) page)
replayed-page setup s [] page = refl
replayed-page setup s (p ∷ ps) page = replayed-page setup (after_step s (step_kept setup s p)) ps page

replays-page : (setup : Setup) (s : Stand) (pages : List BookEntry) (page : BookEntry) → IsReplay setup s pages
    → outbox_put_out (step_kept setup (replayed setup s pages) page) ≡ Some page.outbox → IsReplay setup s (pages ++ page ∷ [])
replays-page setup s [] page replays out = (out, tt)
replays-page setup s (p ∷ ps) page replays out =
    (replays.0, replays-page setup (after_step s (step_kept setup s p)) ps page replays.1 out)

pub page_is_step : PageIsStep
page_is_step setup b here page logged memory h is =
    let s = opening_left b.found in
    let steps : step_kept setup (replayed setup s b.pages) page ≡ Does logged memory page.outbox = ap (λ t. step_kept setup t page) h.leads ∙ is in
    record {
      leads = replayed-page setup s b.pages page ∙ ap (after_step (replayed setup s b.pages)) steps
          ∙ ap (λ t. after_step t (Does logged memory page.outbox)) h.leads;
      accepted = replays-page setup s b.pages page h.accepted (ap outbox_put_out steps);
    }
