use Rattle.image_rules.proofs.Strides.{strided}
use Rattle.image_build.proofs.WholeImage.{root_stored, rooted_queue, image_written}
use Rattle.image_build.proofs.fill.Source.write_image.Goals as goal

pub build_nodes-requires : goal.build_nodes-requires
build_nodes-requires c = let a = c.args in
    let r = c.requires in
    let st = strided a.self.stride r.stride_of.listed in
    let e = c.store_pending.ensures in (
      r.slots_few,
      root_stored 32 a.self.list.now a.n a.self.stride a.self.slots a.nodes.now a.ports.now st r _ e,
      rooted_queue 32 a.self.list.now a.n a.self.stride a.self.slots a.nodes.now a.ports.now st r _ e,
    )

pub returns : goal.returns
returns c = let a = c.args in
    let r = c.requires in
    let st = strided a.self.stride r.stride_of.listed in
    image_written 32 a.self.list.now a.n a.self.stride a.self.slots a.nodes.now a.ports.now st r _ c.store_pending.ensures c.build_nodes.ensures.0 c.build_nodes.ensures.1
