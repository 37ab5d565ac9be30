-- A shift by 8 * k bits divides by 2 ^ (8 * k), and the mask takes what is left modulo 256.
use Rattle.std.proofs.Common.{◌*◌, ◌/◌, ◌^◌, arith}
use lib.Bits.{and_mask}
use Rattle.word.specs.Bytes.{byte_of}
use Rattle.word.proofs.byte.Goals as goal

pub returns : goal.returns
unfolding byte_of
returns c = omega (arith, and_mask (c.args.v / 2 ^ (8 * c.args.k)) 8)
