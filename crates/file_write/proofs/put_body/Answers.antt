use Rattle.routes.specs.Routes.{route_at, route_count}
use Rattle.octets.proofs.Parts.{laid_none, laid_more}
use Rattle.file_rules.specs.File.{head_size}
use Rattle.file_write.proofs.Bodies.{route_coding, bodied_room}
use Rattle.file_write.proofs.put_body.Goals as goal

pub loop-i-init : goal.loop-i-init
loop-i-init c = let a = c.args in
    let list = a.list.now in
    laid_none (route_coding 32) (route_at list) (route_count list) head_size a.file.now

pub put_bytes-requires : goal.put_bytes-requires
put_bytes-requires c = bodied_room 32 c.args.list.now c.args.file.now c.requires _ _ _ c.loop-i.invariant c.loop-i-test.true _ c.route_at-r.ensures

pub loop-i-preserved : goal.loop-i-preserved
loop-i-preserved c = let list = c.args.list.now in
    laid_more (route_coding 32) (route_at list) (route_count list) head_size c.args.file.now c.requires.room _ _ _ c.loop-i.invariant c.loop-i-test.true _ _ _ c.route_at-r.ensures c.route_size-at.ensures.is c.put_bytes.ensures
