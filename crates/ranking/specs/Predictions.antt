-- The prediction of an ion: the members of its cover by the masses that a spectrum shows. Masses are in 10^-12 Da,
-- lower bounds of probabilities and coverages in units of 10^-18.
use Rattle.std.specs.Prelude.{ℕ, ℤ, pos, ◌-ℤ◌, ◌*ℤ◌, List, map, take, Result, Ok}
use Rattle.reader_answers.specs.Answers.{◌>>=◌}
use Rattle.isotopologue_sets.specs.Covers.{Member}
use Rattle.reaching_layer.specs.declared.fault.CoverFault.{CoverFault}
use Rattle.element_table.specs.Elements.{TableEntries}
use Rattle.written_items.specs.declared.item.Item.{Item}
use Rattle.cover_certificate.specs.FormulaCovers.{CoverEntries, MemberEntry, member_entry, cover_unless_too_many}
use Rattle.prediction_score.specs.declared.predicted.Predicted.{Predicted}

-- the size and the bound of an ion's cover, and its members
pub record PredictionEntries : Type 0 where
  pub size : ℕ
  pub bound : ℕ
  pub members : List Predicted

-- the mass of as many electrons as a charge says
abbrev pub electrons_of : TableEntries → ℤ → ℤ
electrons_of table charge = charge *ℤ pos table.electron

-- a member of the cover of an ion of this charge, the electrons taken off its mass
abbrev pub predicted_of : TableEntries → ℤ → MemberEntry → Predicted
predicted_of table charge member =
    record { mass = pos member.mass -ℤ electrons_of table charge; lo = member.lo }

-- the prediction of an ion of this charge that has this cover
abbrev pub prediction_of : TableEntries → ℤ → CoverEntries → PredictionEntries
prediction_of table charge cover =
    record {
      size = cover.size;
      bound = cover.bound;
      members = map (predicted_of table charge) (take cover.size cover.layer);
    }

-- the prediction of an ion for a coverage, unless a layer has too many members and none before it has the coverage
unfoldable pub prediction_unless_too_many : TableEntries → List (Item × ℕ) → ℤ → ℕ
    → Result PredictionEntries CoverFault
prediction_unless_too_many table ion charge coverage =
    cover_unless_too_many table ion coverage >>= λ cover. Ok (prediction_of table charge cover)

-- For private contracts: a member of the reaching layer of an ion's elements, as it is predicted.
abbrev pub predicted_member : TableEntries → List (Item × ℕ) → ℤ → Member → Predicted
predicted_member table ion charge member = predicted_of table charge (member_entry table ion member)
