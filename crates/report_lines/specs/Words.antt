-- The words of a line as they are handed to the printer of lines.
use Rattle.std.specs.Prelude.{ℕ, zero, suc, List, [], ◌∷◌}
use Rattle.std.specs.Fmt.{decimal, signed_decimal}
use Rattle.formula_text.specs.PrintedText.{printed_text}
use Rattle.report_lines.specs.ReportLines.{mass_text, minus, space}
use Rattle.report_lines.specs.declared.word.Word.{Word}
use Rattle.report_lines.specs.declared.word.Word.TheVariants.{Text, Formula, Number, Mass, NegativeMass, Difference}

-- the text of a word
abbrev pub word_text : Word → List ℕ
word_text (Text text) = text.now
word_text (Formula formula) = printed_text formula.now
word_text (Number number) = decimal number
word_text (Mass mass) = mass_text mass
word_text (NegativeMass mass) = minus ∷ mass_text mass
word_text (Difference difference) = signed_decimal difference

-- what stands before the word of this place in a line: a space, and nothing before the first
abbrev pub space_before : ℕ → List ℕ
space_before zero = []
space_before (suc place) = space ∷ []
