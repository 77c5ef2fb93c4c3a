use Rattle.std.proofs.Common.{arith}
use Rattle.combine_byte.proofs.ByteScans.{first_behind, within_bytes}
use Rattle.combine_byte.proofs.find.first_byte.Goals as goal

pub overflow_add-result : goal.overflow_add-result
overflow_add-result g c =
    let p = first_behind _ c.args.bytes.now _ _ c.scan.result c.skip_blocks-few.ensures c.skip_blocks-fewer.ensures c.scan.ensures in
    let l = within_bytes _ _ _ p in
    omega arith

pub returns : goal.returns
returns g c = first_behind _ c.args.bytes.now _ _ c.scan.result c.skip_blocks-few.ensures c.skip_blocks-fewer.ensures c.scan.ensures
