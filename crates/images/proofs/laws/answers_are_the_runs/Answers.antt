use Rattle.images.proofs.Shown.{looks_are_the_runs, outboxes_are_the_runs, shown_is_serial, told_is_there}
use Rattle.images.proofs.Viewed.{lists_are_views, viewed_is_serial}
use Rattle.images.proofs.laws.answers_are_the_runs.Goals as goal

pub returns-clause-outboxes : goal.returns-clause-outboxes
returns-clause-outboxes g c = outboxes_are_the_runs g.D.Disk.keeps_model g.D.Disk.obeys g.D.Disk.file g.D.Disk.clock g.D.Disk.since
    g.D.Disk.failures g.D.Disk.plan g.met.D.Disk.counts_now

pub returns-clause-looks : goal.returns-clause-looks
returns-clause-looks g c = looks_are_the_runs g.D.Disk.keeps_model g.D.Disk.obeys g.D.Disk.file g.D.Disk.clock g.D.Disk.since
    g.D.Disk.failures g.D.Disk.plan g.met.D.Disk.counts_now

pub returns-clause-told : goal.returns-clause-told
returns-clause-told g c = told_is_there g.D.Disk.keeps_model g.D.Disk.obeys g.D.Disk.file g.D.Disk.clock g.D.Disk.since
    g.D.Disk.failures g.D.Disk.plan g.met.D.Disk.counts_now

pub returns-clause-shown : goal.returns-clause-shown
returns-clause-shown g c = shown_is_serial g.D.Disk.keeps_model g.D.Disk.obeys g.D.Disk.file g.D.Disk.clock g.D.Disk.since
    g.D.Disk.failures g.D.Disk.plan g.met.D.Disk.counts_now

pub returns-clause-views : goal.returns-clause-views
returns-clause-views g c = lists_are_views g.D.Disk.keeps_model g.D.Disk.obeys g.D.Disk.file g.D.Disk.clock g.D.Disk.since
    g.D.Disk.failures g.D.Disk.plan g.met.D.Disk.counts_now

pub returns-clause-viewed : goal.returns-clause-viewed
returns-clause-viewed g c = viewed_is_serial g.D.Disk.keeps_model g.D.Disk.obeys g.D.Disk.file g.D.Disk.clock g.D.Disk.since
    g.D.Disk.failures g.D.Disk.plan g.met.D.Disk.counts_now
