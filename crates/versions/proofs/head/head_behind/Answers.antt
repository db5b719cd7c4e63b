use Rattle.std.proofs.Common.{◌≡◌, ◌∙◌, ◌-◌, Ordering, nat_cmp, sym, ap, take, drop, length, arith, length-drop}
use Rattle.std.proofs.lemmas.List.{take_all}
use Rattle.std.specs.Cmp.Lexicographic.{slice_cmp}
use Rattle.versions.specs.Heads.{number}
use Rattle.versions.proofs.Heads.{head_by, head_compared}
use Rattle.versions.proofs.head.head_behind.Goals as goal

pub returns-in-Less-clause-head : goal.returns-in-Less-clause-head
returns-in-Less-clause-head c =
    let n = c.min-shared.result in
    let key = c.args.key.now in
    let rest = number 8 (drop n key) in
    let is : c.cmp.result ≡ slice_cmp nat_cmp (take n key) c.args.prefix.now = c.cmp.ensures in
    sym (head_compared c.args.prefix.now key n c.min-shared.ensures ∙ ap (λ (o : Ordering). head_by o rest) (sym is ∙ c.in-Less.is))

pub returns-in-Equal-clause-head : goal.returns-in-Equal-clause-head
returns-in-Equal-clause-head c =
    let n = c.min-shared.result in
    let key = c.args.key.now in
    let rest = number 8 (drop n key) in
    let is : c.cmp.result ≡ slice_cmp nat_cmp (take n key) c.args.prefix.now = c.cmp.ensures in
    c.number.ensures.number ∙ ap (number 8) (take_all (length key - n) (drop n key) (omega (arith, length-drop n key)))
    ∙ sym (head_compared c.args.prefix.now key n c.min-shared.ensures ∙ ap (λ (o : Ordering). head_by o rest) (sym is ∙ c.in-Equal.is))

pub returns-in-Greater-clause-head : goal.returns-in-Greater-clause-head
returns-in-Greater-clause-head c =
    let n = c.min-shared.result in
    let key = c.args.key.now in
    let rest = number 8 (drop n key) in
    let is : c.cmp.result ≡ slice_cmp nat_cmp (take n key) c.args.prefix.now = c.cmp.ensures in
    sym (head_compared c.args.prefix.now key n c.min-shared.ensures ∙ ap (λ (o : Ordering). head_by o rest) (sym is ∙ c.in-Greater.is))
