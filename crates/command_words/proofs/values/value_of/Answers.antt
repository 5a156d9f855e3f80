use Rattle.std.proofs.Common.{◌≡◌, ◌∙◌, ap, ap₂, find, if◌then◌else◌, option_map, refl, slice_get, sym, Option, Some, None}
use Rattle.std.specs.Prelude.{option_and_then}
use Rattle.std.specs.Str.{bytes_eq}
use Rattle.clap.specs.Walk.{Row, Text, row_of}
use Rattle.clap.specs.Words.{first_value, found_of, matched_of, rows_of}
use Rattle.clap.specs.declared.parser.matches.Found.{Found}
use Rattle.clap.specs.declared.parser.matches.ValueSource.{ValueSource}
use Rattle.clap.specs.declared.parser.matches.ValueSource.TheVariants.{CommandLine, DefaultValue}
use Rattle.clap.proofs.WalkLemmas.{find_row, first_value-rows}
use Rattle.command_words.specs.ClapCommands.{given_in, is_from_words, row_given}
use Rattle.command_words.specs.Options.{name}
use Rattle.command_words.proofs.values.value_of.Goals as goal

source_by-rows : (found : Found) (id : Text) → option_and_then (λ a. a.source) (matched_of found id)
    ≡ option_and_then (λ row. row.source) (find (λ row. bytes_eq row.id id) (rows_of found))
source_by-rows found id = go (find (λ e. bytes_eq e.0.now id) found.entries.items)
    ∙ ap (option_and_then (λ row. row.source)) (sym (find_row found.entries.items id))
  where
    go : (o : _) → option_and_then (λ a. a.source) (option_map (λ e. e.1) o)
        ≡ option_and_then (λ row. row.source) (option_map row_of o)
    go None = refl
    go (Some entry) = refl

-- the value that words give to the option of a name, by where its first value comes from
given_by : (found : Found) (id other : Text) (source : Option ValueSource) → other ≡ id
    → source ≡ option_and_then (λ a. a.source) (matched_of found other)
    → (if is_from_words source then first_value found other else None) ≡ given_in (rows_of found) id
given_by found id other source same is =
    ap₂ (λ s v. if is_from_words s then v else None) (is ∙ source_by-rows found other) (first_value-rows found other)
    ∙ go (find (λ row. bytes_eq row.id other) (rows_of found))
    ∙ ap (given_in (rows_of found)) same
  where
    go : (o : Option Row) → (if is_from_words (option_and_then (λ row. row.source) o)
        then option_and_then (λ row. slice_get row.values 0) o else None) ≡ option_and_then row_given o
    go None = refl
    go (Some row) = refl

pub returns-in_err-value_source : goal.returns-in_err-value_source
returns-in_err-value_source c = ap (option_map (λ text. text.now)) c.from_residual.ensures
    ∙ given_by (found_of c.args.matches.now) (name c.args.option) _ None c.name-name.ensures
    c.in_err-value_source.ensures

pub returns-in-CommandLine : goal.returns-in-CommandLine
returns-in-CommandLine c = c.get_str.ensures
    ∙ given_by (found_of c.args.matches.now) (name c.args.option) _ (Some CommandLine) c.name-name.ensures
    (ap Some (sym c.in-CommandLine.is) ∙ c.in_ok-value_source.ensures)

pub returns-in-DefaultValue : goal.returns-in-DefaultValue
returns-in-DefaultValue c =
    given_by (found_of c.args.matches.now) (name c.args.option) _ (Some DefaultValue) c.name-name.ensures
    (ap Some (sym c.in-DefaultValue.is) ∙ c.in_ok-value_source.ensures)
