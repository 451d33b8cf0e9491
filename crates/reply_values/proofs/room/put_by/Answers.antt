use Rattle.reply_values.proofs.PutLemmas.{two_puts}
use Rattle.reply_values.proofs.room.put_by.Goals as goal

pub returns : goal.returns
returns g c =
    two_puts c.args.out.now c.put_block.new.out c.put_block-2.new.out c.args.bytes.now c.args.at g.row.N _ _ c.requires.some c.requires.most c.requires.room c.put_block.ensures c.put_block-2.ensures
