-- Why a read of records of bytes fails where records may differ in length: the source, or want of memory.
use Rattle.std.proofs.Common.{◌≡◌, ℕ, Option, List, true, false, refl}
use Rattle.csv.specs.Reading.{ExplainsRead}
use Rattle.csv.specs.declared.reader.Reader.{Reader}
use Rattle.csv.specs.declared.error.ErrorKind.{ErrorKind}
use Rattle.csv.specs.declared.error.ErrorKind.TheVariants as kind

-- no error of another kind comes
pub no_other_error : {R : Type 0} (rem : R → Option (List ℕ)) (a b : Reader R) (k : ErrorKind) → a.flexible ≡ true
    → ExplainsRead rem a b false k → ¬ (k ≡ kind.OutOfMemory) → ((e : _) → ¬ (k ≡ kind.Io e)) → ⊥
no_other_error rem a b (kind.Io e) flexible why memory io = io e refl
no_other_error rem a b kind.OutOfMemory flexible why memory io = memory refl
no_other_error rem a b (kind.UnequalLengths pos expected len) flexible why memory io = let rigid : a.flexible ≡ false =
    why.0 in cc
no_other_error rem a b (kind.Utf8 pos err) flexible why memory io = let text : false ≡ true = why.0 in cc
no_other_error rem a b (kind.Serialize text) flexible why memory io = absurd why
no_other_error rem a b (kind.Deserialize pos err) flexible why memory io = absurd why
