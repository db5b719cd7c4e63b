use Rattle.std.proofs.Common.{refl}
use Rattle.lives.proofs.Showing.{acts_err, acts_memory, acts_ok, life_kept, with_life}
use Rattle.lives.proofs.run_shard.RunShard.act.Goals as goal

pub returns-in-Err : goal.returns-in-Err
returns-in-Err c setup s h =
    let old = c.args.self.now in
    let life = c.carry.new.self in
    acts_err setup c.args.bag.now s c.args.call c.args.doing.now old (with_life old life) h (life_kept old life) _ c.in-Err.fault refl c.in-Err.ensures

pub returns-in-Err-note : goal.returns-in-Err-note
returns-in-Err-note c setup s h =
    acts_memory setup c.args.bag.now s c.args.call c.args.doing.now c.note.new.self _ c.in-Err-note.fault refl c.in-Err-note.ensures.memory

pub returns-in-Ok-note : goal.returns-in-Ok-note
returns-in-Ok-note c setup s h =
    let old = c.args.self.now in
    let life = c.carry.new.self in
    acts_ok setup c.args.bag.now s c.args.call c.args.doing.now old (with_life old life) h (life_kept old life) c.note.new.self c.in-Ok.out
    c.in-Ok.ensures c.in-Ok-note.ensures.noted
