-- The rules that clap makes of options: which of them a name finds, and that each of their commands is simple.
use Rattle.std.proofs.Common.{◌≡◌, ◌∙◌, ℕ, Bool, true, false, ◌&&◌, cond, List, [], ◌∷◌, ◌++◌, map, Option, Some, None, ap, sym, refl, find, option_map}
use Rattle.std.proofs.lemmas.List.{map-append}
use Rattle.std.specs.List.{list_all, list_any}
use Rattle.std.specs.Str.{bytes_eq}
use Rattle.std.proofs.Math.Bool.{or-false}
use Rattle.std.proofs.lemmas.Slice.Eq.{bytes_eq-Decides}
use Rattle.clap.specs.Walk.{Rule, Text, arg_by_id, arg_by_index, arg_by_long, is_early_multiple}
use Rattle.clap.specs.Simple.{App, Shape, built, filled_from, is_simple, new_shape, with_rule}
use Rattle.clap.specs.Faults.{is_free_app, is_simple_and_free}
use Rattle.command_words.specs.ClapCommands.{built_rule, command_app, option_rule}
use Rattle.command_words.specs.Uses.{Argument, is_flag_of}

-- what clap builds of a command
abbrev pub built_shape : Text → List Rule → Shape
built_shape first rules = record (new_shape first) {
  rules = rules;
  disable_help_flag = true;
  disable_help_subcommand = true;
  is_built = true;
}

abbrev pub app_of_rules : Text → List Rule → App
app_of_rules first rules = record { top = built_shape first rules; subs = [] }

pub filled_from-options : (i : ℕ) (options : List Argument)
    → filled_from i (map option_rule options) ≡ map built_rule options
filled_from-options i [] = refl
filled_from-options i (option ∷ options) = ap (λ rest. built_rule option ∷ rest) (filled_from-options i options)

pub built-command_app : (first : Text) (options : List Argument) → built (command_app first options)
    ≡ app_of_rules first (map built_rule options)
built-command_app first options = ap (app_of_rules first) (filled_from-options 1 options)

all_of : (test : Rule → Bool) (rule : Argument → Rule) → ((name : Text) (flag : Bool) → test (rule (name, flag)) ≡ true)
    → (options : List Argument) → list_all test (map rule options) ≡ true
all_of test rule each [] = refl
all_of test rule each (option ∷ options) = rw (each option.0 option.1) (all_of test rule each options)

pub none_of : (test : Rule → Bool) → ((name : Text) (flag : Bool) → test (built_rule (name, flag)) ≡ false)
    → (options : List Argument) → list_any test (map built_rule options) ≡ false
none_of test each [] = refl
none_of test each (option ∷ options) = rw (each option.0 option.1) (none_of test each options)

early_none : (n : ℕ) (options : List Argument) → list_any (is_early_multiple n) (map built_rule options) ≡ false
early_none n options = none_of (is_early_multiple n) (λ name flag. refl) options

pub is_simple-command_app : (first : Text) (options : List Argument) → is_simple (command_app first options) ≡ true
is_simple-command_app first options = rw (
  all_of (λ a. a.is_simple) option_rule (λ name flag. refl) options,
  filled_from-options 1 options,
  all_of (λ a. a.is_simple) built_rule (λ name flag. refl) options,
  early_none _ options,
) refl

is_free-command_app : (first : Text) (options : List Argument)
    → is_free_app (built (command_app first options)) ≡ true
is_free-command_app first options = ap is_free_app (built-command_app first options)
    ∙ ap (λ b. b && true) (all_of (λ a. a.is_free) built_rule (λ name flag. refl) options)

pub is_simple_and_free-command_app : (first : Text) (options : List Argument)
    → is_simple_and_free (command_app first options) ≡ true
is_simple_and_free-command_app first options =
    rw (is_simple-command_app first options, is_free-command_app first options) refl

-- ---- which rule a name finds

abbrev pub found : Option Bool → Text → Option Rule
found None name = None
found (Some flag) name = Some (built_rule (name, flag))

find_name : (test : Rule → Bool) (name : Text)
    → ((other : Text) (flag : Bool) → test (built_rule (other, flag)) ≡ bytes_eq other name)
    → ((other : Text) → bytes_eq other name ≡ true → other ≡ name)
    → (options : List Argument) → find test (map built_rule options) ≡ found (is_flag_of options name) name
find_name test name is same [] = refl
find_name test name is same (other ∷ options) =
    rw (is other.0 other.1) (go (bytes_eq other.0 name) refl (find_name test name is same options))
  where
    go : (b : Bool) → bytes_eq other.0 name ≡ b
        → find test (map built_rule options) ≡ found (is_flag_of options name) name
        → cond b (Some (built_rule other)) (find test (map built_rule options))
        ≡ found (option_map (λ o. o.1) (cond b (Some other) (find (λ o. bytes_eq o.0 name) options))) name
    go true e rec = ap (λ n. Some (built_rule (n, other.1))) (same other.0 e)
    go false e rec = rec

pub arg_by_long-is : (name : Text) (options : List Argument) → arg_by_long (map built_rule options) name
    ≡ found (is_flag_of options name) name
arg_by_long-is name options = find_name _ name (λ other flag. or-false (bytes_eq other name))
    (λ other. (bytes_eq-Decides other name).0) options

pub arg_by_id-is : (name : Text) (options : List Argument) → arg_by_id (map built_rule options) name
    ≡ found (is_flag_of options name) name
arg_by_id-is name options =
    find_name _ name (λ other flag. refl) (λ other. (bytes_eq-Decides other name).0) options

pub arg_by_index-none : (i : ℕ) (options : List Argument) → arg_by_index (map built_rule options) i ≡ None
arg_by_index-none i [] = refl
arg_by_index-none i (option ∷ options) = arg_by_index-none i options

-- one more option
pub command_app-more : (first : Text) (more : Argument) (options : List Argument)
    → with_rule (command_app first options) (option_rule more) ≡ command_app first (options ++ more ∷ [])
command_app-more first more options = ap (λ rules. record (command_app first []) {
  top =
      record (new_shape first) { rules = rules; disable_help_flag = true };
})
    (sym (map-append option_rule options (more ∷ [])))
