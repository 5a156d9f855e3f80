-- What a run with status 0 says of certificates, request by request: what `check` accepted is true, and what `envelope`
-- printed is accepted.
use Rattle.std.specs.Prelude.{◌≡◌, ℕ, true, List, ◌∷◌, Option, Some, Ok, All, ⊤}
use Rattle.outside_ports.specs.Files.{Files}
use Rattle.command_words.specs.WordReading.{request_of}
use Rattle.command_words.specs.declared.request.Request.{Request}
use Rattle.command_words.specs.declared.request.Request.TheVariants.{Check, Envelope}
use Rattle.command_io.specs.Steps.{tracer_names}
use Rattle.cover_reports.specs.Claims.{SaysTrue}
use Rattle.isoform.specs.Answer.{answer}
use Rattle.isoform.specs.Outside.{status_of_answer}

-- the certificate that `check` was asked of, and accepted
abbrev pub IsTrueCheck : Request → Files → Type 0
IsTrueCheck (Check table tracer certificate) files = SaysTrue table tracer certificate files
IsTrueCheck request files = ⊤

-- Files hold these bytes under a name, and the same table, and the same tracer where one is named, as others do. Then
-- words that ask `check` of them have the answer of status 0.
abbrev pub PassesFor : List ℕ → Option (List ℕ) → List ℕ → Files → Type 0
PassesFor table tracer bytes files =
    (others : Files) (name : List ℕ) (words : List (List ℕ)) → All (λ n. others n ≡ files n) (table ∷ tracer_names tracer) →
    others name ≡ Some bytes → request_of words ≡ Ok (Check table tracer name) → status_of_answer (answer words others) ≡ 0

-- the certificate that `envelope` was asked for
abbrev pub IsAcceptedLater : Request → Files → List ℕ → Type 0
IsAcceptedLater (Envelope table tracer adduct formula coverage true json) files bytes =
    PassesFor table tracer bytes files
IsAcceptedLater request files bytes = ⊤
