-- Fixed blocks (GOST 17422-82, part 2; document 02, card 11): content bytes, then their check. The questions of writing and reading
-- in turn, and the output afterwards. Assumes nothing.
use Rattle.std.specs.Prelude.{ℕ, ◌+◌, ◌-◌, ◌/◌, Bool, cond, nat_le, List, ◌++◌, length, take, drop}
use Rattle.bits.specs.Strings.{same}
use Rattle.bits.specs.Bytes.{bits_of, pack}
use Rattle.bits.specs.Calls.{Call, called}
use Rattle.cyclic.specs.Check.{Parameters, check_bits}
use Rattle.fixed_polynomials.specs.Polynomials.{degree8, degree16, degree24}
use Rattle.fixed_block.specs.declared.Polynomial.{Polynomial}
use Rattle.fixed_block.specs.declared.Polynomial.TheVariants.{Degree8, Degree16, Degree24}

unfoldable pub parameters : Polynomial → Parameters
parameters Degree8 = degree8
parameters Degree16 = degree16
parameters Degree24 = degree24

-- par. 2.5: the check has as many bits as the polynomial's degree; in bytes
unfoldable pub check_length : Parameters → ℕ
check_length m = length m.generator / 8

-- ---- questions

-- all are passed: the bytes with which the output then begins; or the number and the value of the first that is not
pub data Outcome : Type 0 where
  bytes : List ℕ → Outcome
  no : ℕ → ℕ → Outcome

abbrev pub ask : Bool → ℕ → ℕ → Outcome → Outcome
ask holds number value next = cond holds next (no number value)

-- par. 2.4: the content, then its check in the order sent
unfoldable pub block_of : Parameters → List ℕ → List ℕ
block_of m content = content ++ pack (check_bits m (bits_of content))

-- is there a content byte? 64. Is the block, its check included, within its length? 65. Does the output, of so many bytes, hold it?
-- 6, needed bytes
unfoldable pub write_fixed : Parameters → List ℕ → ℕ → Outcome
write_fixed m content room =
    ask (nat_le 1 (length content)) 64 0
    (ask (nat_le (length content + check_length m) m.limit) 65 0
    (ask (nat_le (length content + check_length m) room) 6 (length content + check_length m)
    (bytes (block_of m content))))

-- the content of a block, and the check behind it
abbrev pub content_of : Parameters → List ℕ → List ℕ
content_of m block = take (length block - check_length m) block

abbrev pub check_in : Parameters → List ℕ → List ℕ
check_in m block = drop (length block - check_length m) block

-- the check is the content's
abbrev pub is_right : Parameters → List ℕ → Bool
is_right m block = same (bits_of (check_in m block)) (check_bits m (bits_of (content_of m block)))

-- is there a content byte beside the check? 64. Is the block within its length? 65. Is the check equal? 18. Does the output hold the
-- content? 19, needed bytes
unfoldable pub read_fixed : Parameters → List ℕ → ℕ → Outcome
read_fixed m block room =
    ask (nat_le (1 + check_length m) (length block)) 64 0
    (ask (nat_le (length block) m.limit) 65 0
    (ask (is_right m block) 18 0
    (ask (nat_le (length block - check_length m) room) 19 (length block - check_length m)
    (bytes (content_of m block)))))

-- ---- the calls

-- the bytes of the block or of the content; or the number and the value of a refusal
pub data Answer : Type 0 where
  done : ℕ → Answer
  refused : ℕ → ℕ → Answer

abbrev pub answer : Outcome → Answer
answer (bytes b) = done (length b)
answer (no number value) = refused number value

-- the bytes, then what stood behind them; a refused call leaves the output
abbrev pub output_after : Outcome → List ℕ → List ℕ
output_after (bytes b) out = b ++ drop (length b) out
output_after (no number value) out = out

abbrev pub after : Outcome → List ℕ → Call Answer
after o out = called (answer o) (output_after o out)

-- of the polynomial, the content and the output
abbrev pub write_call : Polynomial → List ℕ → List ℕ → Call Answer
write_call p content out = after (write_fixed (parameters p) content (length out)) out

-- of the polynomial, the block and the output
abbrev pub read_call : Polynomial → List ℕ → List ℕ → Call Answer
read_call p block out = after (read_fixed (parameters p) block (length out)) out
