use Rattle.std.proofs.Common.{◌≡◌, Result, IsOk, is_ok, if◌then◌else◌, insert, ap, ◌∙◌}
use Rattle.session.specs.Places.{write_place}
use Rattle.session.proofs.Filters.{insert_write}
use Rattle.session.proofs.lists.insert_write.Goals as goal

inserted : {T E A : Type 0} (r : Result T E) (a b : A) → IsOk r → (if is_ok r then a else b) ≡ a
inserted r a b ok = ap (λ t. if t then a else b) ok

pub returns : goal.returns
returns c =
    let ws = c.args.writes.now.items in
    c.insert.ensures.items
    ∙ inserted c.insert.result (insert ws c.write_place-place.result c.args.write) ws (c.insert.ensures.succeeds c.requires)
    ∙ ap (λ n. insert ws n c.args.write) (c.write_place-place.ensures.place ∙ ap (λ vs. write_place vs c.args.write.key) c.as_slice.ensures.value)
    ∙ insert_write ws c.args.write
