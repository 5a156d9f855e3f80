-- What a note says of words that are no request.
use Rattle.std.specs.Prelude.{ℕ, List, ◌++◌, codes}
use Rattle.command_words.specs.Options.{option_word}
use Rattle.command_words.specs.declared.fault.WordsFault.{WordsFault}
use Rattle.command_words.specs.declared.fault.WordsFault.TheVariants.{Words, Value, Memory}

-- what a note says of a fault of the words, behind `isoform: `
abbrev pub words_fault_words : WordsFault → List ℕ
words_fault_words Words = codes "words"
words_fault_words (Value option) = codes "value: " ++ option_word option
words_fault_words Memory = codes "memory"
