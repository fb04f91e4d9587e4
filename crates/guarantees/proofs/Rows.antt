-- The starred rows of document 01 are what the rules say, by computation. Assumes nothing.
use mathlib.Core.Path.{◌≡◌, refl}
use mathlib.Core.Bool.{xor}
use mathlib.Core.List.{map}
use Rattle.bits.specs.Bytes.{low_bits, bits_of, value, pack_into, pack}
use Rattle.division.specs.Division.{divide, remainder}
use Rattle.division.specs.Generators.{ccitt16, ibm16}
use Rattle.cyclic.specs.Check.{formula, check_bits, checked_bits, method3, method4, method5}
use Rattle.number.specs.Number.{difference, verdict_for, receiving}
use Rattle.number.specs.History.{history}
use Rattle.block.specs.Signs.{sign_of}
use Rattle.block.specs.Characters.{character, parity_right}
use Rattle.block.specs.Diagonals.{diagonal_bits}
use Rattle.block.specs.Check.{row_sums, matrix_check, diagonal_check, check_of, check_length}
use Rattle.block.specs.Read.{framed, framing_of, read_block}
use Rattle.frame.specs.Stuffing.{is_fifth, run_on, stuff, unstuff}
use Rattle.frame.specs.Frame.{flag, enclose, frame_of}
use Rattle.frame.specs.Read as frame-reading
use Rattle.frame.specs.Write.{write_bits, write_frame}
use Rattle.guarantees.specs.Rows.{result_of, rows, results}

pub starred_rows : map result_of rows ≡ results
unfolding low_bits bits_of value pack_into pack divide remainder ccitt16 ibm16 formula check_bits checked_bits method3 method4 method5 difference verdict_for receiving history sign_of character parity_right row_sums matrix_check diagonal_check diagonal_bits check_of check_length framed framing_of read_block is_fifth run_on stuff unstuff flag enclose frame_of frame-reading.framed write_bits write_frame xor
starred_rows = refl
