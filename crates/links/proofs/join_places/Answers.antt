use Rattle.std.proofs.Common.{refl}
use Rattle.links.specs.JoinLinks.{fuse_first, fuse_second, join_is}
use Rattle.links.proofs.join_places.Goals as goal

pub fuse-requires : goal.fuse-requires
fuse-requires c = (
  fuse_first _ _ _ _ _ _ c.requires _ _ c.in_code-x.ensures refl _ _ c.item_number-same.ensures.0 refl,
  c.item_number-same.ensures.1,
)

pub fuse-requires-2 : goal.fuse-requires-2
fuse-requires-2 c = (
  fuse_second _ _ _ _ _ _ c.requires _ _ c.in_code-x.ensures c.in_code-y.ensures _ _ c.item_number-same.ensures.0 refl _ c.fuse.ensures,
  c.item_number-reversed.ensures.1,
)

pub returns : goal.returns
returns c =
    join_is _ _ _ _ _ _ c.requires _ _ c.in_code-x.ensures c.in_code-y.ensures _ _ c.item_number-same.ensures.0 c.item_number-reversed.ensures.0 _ c.fuse.ensures _ c.fuse-2.ensures
