use Rattle.std.proofs.Common.{◌≡◌, ◌+◌, ◌++◌, ◌∷◌, [], ℕ, List, Vec, Global, cond, get_or, take, ap, sym, ◌∙◌, append_assoc}
use Rattle.std.proofs.Common.{append-nil}
use Rattle.std.proofs.lemmas.Bool.{lt-ltb, le-ltb}
use Rattle.std.proofs.lemmas.List.Elements.{All-push}
use Rattle.element_table.specs.declared.element.Isotope.{Isotope}
use Rattle.element_table.specs.Elements.{IsIsotope}
use Rattle.isotopologue_text.specs.Isotopologues.{isotopes_that_occur}
use Rattle.isotopologue_text.proofs.CountsLemmas.{occur-more}
use Rattle.isotopologue_text.proofs.masses.push_isotopes.Goals as goal
use Rattle.isotopologue_text.proofs.masses.push_isotopes.Goals.{then-isotope-gt0+in_ok-push, else-isotope-gt0}

none : Isotope
none = record { number = 0; mass = 0; weight = 0 }

pub loop-isotope-preserved : goal.loop-isotope-preserved
unfolding none
loop-isotope-preserved c =
    let i : ℕ = c.loop-isotope.isotope-index in
    let own : List Isotope = c.args.own.now in
    let isotope : Isotope = get_or own i none in
    let so_far : List Isotope = isotopes_that_occur (take i own) in
    let more : isotopes_that_occur (take (i + 1) own) ≡ so_far ++ isotopes_that_occur (isotope ∷ []) =
    occur-more own i none c.loop-isotope-test.true in
    elim c.if-isotope-gt0.branch [
      | then-isotope-gt0+in_ok-push w ↦
          let takes : isotopes_that_occur (isotope ∷ []) ≡ isotope ∷ [] =
          ap (λ b. cond b (isotope ∷ []) []) (lt-ltb 0 isotope.weight w.if-isotope-gt0.true) in
          let now : c.if-isotope-gt0.isotopes.items ≡ c.loop-isotope.isotopes.items ++ isotope ∷ [] =
          ap (λ (v : Vec Isotope Global). v.items) w.isotopes-is ∙ w.in_ok-push.ensures.items in
          record {
            isotopes =
                now
                ∙ ap (λ (xs : List Isotope). xs ++ isotope ∷ []) c.loop-isotope.invariant.isotopes
                ∙ append_assoc c.args.isotopes.now.items so_far (isotope ∷ [])
                ∙ ap (λ (xs : List Isotope). c.args.isotopes.now.items ++ xs)
                (sym (more ∙ ap (λ (xs : List Isotope). so_far ++ xs) takes));
            are_isotopes =
                rw now
                (All-push IsIsotope c.loop-isotope.isotopes.items isotope c.loop-isotope.invariant.are_isotopes
                (c.requires.isotopes i none c.loop-isotope-test.true));
          }
      | else-isotope-gt0 w ↦
          let passes : isotopes_that_occur (isotope ∷ []) ≡ [] =
          ap (λ b. cond b (isotope ∷ []) []) (le-ltb 0 isotope.weight w.if-isotope-gt0.false) in
          let now : c.if-isotope-gt0.isotopes.items ≡ c.loop-isotope.isotopes.items =
          ap (λ (v : Vec Isotope Global). v.items) w.isotopes-is in
          record {
            isotopes =
                now ∙ c.loop-isotope.invariant.isotopes
                ∙ ap (λ (xs : List Isotope). c.args.isotopes.now.items ++ xs)
                (sym (more ∙ ap (λ (xs : List Isotope). so_far ++ xs) passes ∙ append-nil so_far));
            are_isotopes = rw now c.loop-isotope.invariant.are_isotopes;
          }
    ]
