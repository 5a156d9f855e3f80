use Rattle.std.proofs.Common.{◌≡◌, ◌+◌, ◌++◌, ◌∷◌, [], ℕ, List, Vec, Global, cond, get_or, map, take, ap, sym, ◌∙◌}
use Rattle.std.proofs.Common.{append_assoc, append-nil}
use Rattle.std.proofs.lemmas.Bool.{lt-ltb, le-ltb}
use Rattle.std.proofs.lemmas.List.{map-append}
use Rattle.element_table.specs.declared.element.Isotope.{Isotope}
use Rattle.written_items.specs.declared.item.Item.{Item}
use Rattle.isotopologue_text.specs.Isotopologues.{isotopes_that_occur, isotope_item}
use Rattle.isotopologue_text.proofs.CountsLemmas.{occur-more}
use Rattle.isotopologue_text.proofs.printed.push_items.Goals as goal
use Rattle.isotopologue_text.proofs.printed.push_items.Goals.{then-isotope-gt0+in_ok-push, else-isotope-gt0}

none : Isotope
none = record { number = 0; mass = 0; weight = 0 }

pub loop-isotope-preserved : goal.loop-isotope-preserved
unfolding none
loop-isotope-preserved c =
    let i : ℕ = c.loop-isotope.isotope-index in
    let own : List Isotope = c.args.own.now in
    let isotope : Isotope = get_or own i none in
    let item : Item = isotope_item c.args.item.now isotope in
    let so_far : List Isotope = isotopes_that_occur (take i own) in
    let more : isotopes_that_occur (take (i + 1) own) ≡ so_far ++ isotopes_that_occur (isotope ∷ []) =
    occur-more own i none c.loop-isotope-test.true in
    elim c.if-isotope-gt0.branch [
      | then-isotope-gt0+in_ok-push w ↦
          let takes : isotopes_that_occur (isotope ∷ []) ≡ isotope ∷ [] =
          ap (λ b. cond b (isotope ∷ []) []) (lt-ltb 0 isotope.weight w.if-isotope-gt0.true) in
          let all : isotopes_that_occur (take (i + 1) own) ≡ so_far ++ isotope ∷ [] =
          more ∙ ap (λ (xs : List Isotope). so_far ++ xs) takes in
          ap (λ (v : Vec Item Global). v.items) w.items-is
          ∙ w.in_ok-push.ensures.items
          ∙ ap (λ (xs : List Item). xs ++ item ∷ []) c.loop-isotope.invariant
          ∙ append_assoc c.args.items.now.items (map (isotope_item c.args.item.now) so_far) (item ∷ [])
          ∙ ap (λ (xs : List Item). c.args.items.now.items ++ xs)
          (sym (map-append (isotope_item c.args.item.now) so_far (isotope ∷ []))
          ∙ ap (map (isotope_item c.args.item.now)) (sym all))
      | else-isotope-gt0 w ↦
          let passes : isotopes_that_occur (isotope ∷ []) ≡ [] =
          ap (λ b. cond b (isotope ∷ []) []) (le-ltb 0 isotope.weight w.if-isotope-gt0.false) in
          let all : isotopes_that_occur (take (i + 1) own) ≡ so_far =
          more ∙ ap (λ (xs : List Isotope). so_far ++ xs) passes ∙ append-nil so_far in
          ap (λ (v : Vec Item Global). v.items) w.items-is
          ∙ c.loop-isotope.invariant
          ∙ ap (λ (xs : List Isotope). c.args.items.now.items ++ map (isotope_item c.args.item.now) xs) (sym all)
    ]
