-- `engine::trying::check_room` meets its contract. Assumes nothing.
use native.Mathlib.Omega.{arith}
use Rattle.engine.proofs.Stepping.{room_refused, room_short, room_fits}
use Rattle.engine.proofs.trying.check_room.Goals as goal

pub returns-in-Err : goal.returns-in-Err
returns-in-Err c = room_refused c.args.next.now c.args.n c.args.k c.args.room c.args.space c.check_table.ensures
    c.in-Err.is

pub overflow_mul-n : goal.overflow_mul-n
overflow_mul-n c = omega (arith, c.requires)

pub overflow_sub-space : goal.overflow_sub-space
overflow_sub-space c = omega (arith, c.requires)

pub returns-then-room-next : goal.returns-then-room-next
returns-then-room-next c = room_short c.args.next.now c.args.n c.args.k c.args.room c.args.space c.check_table.ensures
    c.in_default.is c.if-room-next.true

pub returns : goal.returns
returns c = room_fits c.args.next.now c.args.n c.args.k c.args.room c.args.space c.check_table.ensures
    c.in_default.is c.requires c.if-room-next.false
