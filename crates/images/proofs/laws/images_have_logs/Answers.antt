use Rattle.images.proofs.AtOnce.{all_crash_at_once, all_go_on}
use Rattle.images.proofs.Failing.{failures_are_told}
use Rattle.images.proofs.Told.{crashes_are_told}
use Rattle.images.proofs.Turned.{cores_know_the_run, images_have_logs}
use Rattle.images.proofs.laws.images_have_logs.Goals as goal

pub returns-clause-logs : goal.returns-clause-logs
returns-clause-logs g c = λ keeps. images_have_logs g.D.Disk.keeps_model g.D.Disk.obeys g.D.Disk.file g.D.Disk.clock g.D.Disk.since g.D.Disk.failures
    g.D.Disk.plan g.met.D.Disk.counts_now keeps keeps

pub returns-clause-told : goal.returns-clause-told
returns-clause-told g c = λ keeps. crashes_are_told g.D.Disk.keeps_model g.D.Disk.obeys g.D.Disk.file g.D.Disk.clock g.D.Disk.since g.D.Disk.failures
    g.D.Disk.plan g.met.D.Disk.counts_now keeps keeps

pub returns-clause-at_once : goal.returns-clause-at_once
returns-clause-at_once g c = λ keeps. all_crash_at_once g.D.Disk.keeps_model g.D.Disk.obeys g.D.Disk.file g.D.Disk.clock g.D.Disk.since g.D.Disk.failures
    g.D.Disk.plan g.met.D.Disk.counts_now keeps keeps

pub returns-clause-go_on : goal.returns-clause-go_on
returns-clause-go_on g c = λ keeps. all_go_on g.D.Disk.keeps_model g.D.Disk.obeys g.D.Disk.file g.D.Disk.clock g.D.Disk.since g.D.Disk.failures
    g.D.Disk.plan g.met.D.Disk.counts_now keeps keeps

pub returns-clause-failed : goal.returns-clause-failed
returns-clause-failed g c = λ keeps. failures_are_told g.D.Disk.keeps_model g.D.Disk.obeys g.D.Disk.file g.D.Disk.clock g.D.Disk.since g.D.Disk.failures
    g.D.Disk.plan g.met.D.Disk.counts_now keeps keeps

pub returns-clause-cores : goal.returns-clause-cores
returns-clause-cores g c = λ keeps. cores_know_the_run g.D.Disk.keeps_model g.D.Disk.obeys g.D.Disk.file g.D.Disk.clock g.D.Disk.since
    g.D.Disk.failures g.D.Disk.plan g.met.D.Disk.counts_now keeps keeps
