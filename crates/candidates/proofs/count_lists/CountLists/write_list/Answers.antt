use Rattle.std.proofs.Common.{◌+◌, ◌*◌, ◌<◌, ◌≤◌, [], ◌≡◌, get_or, length, take, drop, ℕ, List, sym, ap, ◌∙◌, arith}
use Rattle.candidates.proofs.KeptCounts.{length-lists_in, lists_in-at, lists_in-inside}
use Rattle.candidates.proofs.count_lists.CountLists.write_list.Goals as goal
use Rattle.candidates.proofs.count_lists.CountLists.write_list.Goals.{After-as_slice-kept}

place-inside : (c : After-as_slice-kept) → c.args.place < c.self.inside.many
place-inside c =
    let lists = c.self.inside in
    omega (
      arith,
      c.requires.place,
      ap (λ (ls : List (List ℕ)). length ls) c.self.view_is,
      length-lists_in lists.many lists.width lists.counts.items,
    )

within : (c : After-as_slice-kept)
    → c.args.place * c.self.inside.width + c.self.inside.width ≤ length c.as_slice-kept.result.now
within c =
    let lists = c.self.inside in
    omega (
      arith,
      lists_in-inside lists.many lists.width c.args.place (place-inside c),
      c.self.invariant,
      ap (λ (l : List ℕ). length l) c.as_slice-kept.ensures.value,
    )

pub overflow_mul-place : goal.overflow_mul-place
overflow_mul-place c =
    omega (arith, within (goal.at.overflow_mul-place c).After-as_slice-kept, c.as_slice-kept.type_inv.0)

pub part_of-requires : goal.part_of-requires
part_of-requires c = within (goal.at.part_of-requires c).After-as_slice-kept

is-list : (c : After-as_slice-kept) (part : List ℕ)
    → part ≡ take c.self.inside.width (drop (c.args.place * c.self.inside.width) c.as_slice-kept.result.now)
    → part ≡ get_or c.args.self.now c.args.place []
is-list c part is =
    let lists = c.self.inside in
    is
    ∙ ap (λ (l : List ℕ). take lists.width (drop (c.args.place * lists.width) l)) c.as_slice-kept.ensures.value
    ∙ lists_in-at lists.many lists.width c.args.place lists.counts.items (place-inside c)
    ∙ ap (λ (ls : List (List ℕ)). get_or ls c.args.place []) c.self.view_is

pub write_counts-requires : goal.write_counts-requires
write_counts-requires c =
    let same = is-list (goal.at.write_counts-requires c).After-as_slice-kept c.part_of.result.now c.part_of.ensures in
    c.requires.length ∙ sym (ap (λ (l : List ℕ). length l) same)

pub returns : goal.returns
returns c =
    c.write_counts.ensures
    ∙ is-list (goal.at.returns c).After-as_slice-kept c.part_of.result.now c.part_of.ensures
