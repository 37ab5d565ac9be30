-- It tests the cell's bit.
use Rattle.std.proofs.Common.{◌/◌, ◌%◌, get_or}
use Rattle.cellset.proofs.Words.{test_bit}
use Rattle.cellset.proofs.is_in.Goals as goal

pub returns : goal.returns
returns c = test_bit (get_or c.args.words.now (c.args.c / 64) 0) (c.args.c % 64)
