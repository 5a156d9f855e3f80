use Rattle.std.proofs.Common.{SFits, arith, ◌<◌, ◌≤◌, length, get_or, ◌≡◌, ℕ, List, ◌+◌, ◌++◌, ◌∷◌, [], add-one, drop}
use Rattle.std.proofs.Common.{take, ap, sym, ◌∙◌, subst}
use Rattle.std.specs.Prelude.{Ok, Err}
use Rattle.std.proofs.lemmas.List.{append_assoc, take_all, take-append-drop, length-take-le}
use Rattle.std.proofs.Math.Seq.{take-suc, get_or-take}
use Rattle.std.proofs.lemmas.Result.{err_from_is_err_and}
use Rattle.std.specs.List.{flat_map}
use Rattle.cover_certificate.specs.FormulaCovers.{CoverEntries, MemberEntry}
use Rattle.report_lines.specs.ReportLines.{IsPrintedWith, cover_members, isotopologue_line}
use Rattle.std.specs.Int.{w128}
use Rattle.std.proofs.lemmas.Int.{to_z-of_z}
use Rattle.command_io.specs.Parts.{Puts}
use Rattle.command_io.proofs.Puts.{puts_nil}
use Rattle.command_io.proofs.PutLines.{line_not_put, line_put, lines_memory}
use Rattle.cover_reports.proofs.envelope.put_members.Goals as goal

none : MemberEntry
none = record { counts = []; text = []; mass = 0; lo = 0; hi = 0 }

-- a place before the size of a cover is that of a member
within : (cover : CoverEntries) (i : ℕ) → cover.size ≤ length cover.layer → i < cover.size → i < length (cover_members cover)
within cover i fits inside = subst (λ n. i < n) (sym (length-take-le cover.size cover.layer fits)) inside

member_at : (cover : CoverEntries) (i : ℕ) (d : MemberEntry) → i < cover.size →
    get_or cover.layer i d ≡ get_or (cover_members cover) i d
member_at cover i d inside = sym (get_or-take cover.size cover.layer i d inside)

pub loop-place-init : goal.loop-place-init
loop-place-init g c = puts_nil (g.O.Sink.written c.args.out.now) (g.O.Sink.faults c.args.out.now)

pub loop-place-preserved : goal.loop-place-preserved
loop-place-preserved g c =
    let fits : SFits w128 c.args.shift = c.ranges.shift in
    let cover = c.args.cover.now in
    let members : List MemberEntry = cover_members cover in
    let i = c.loop-place.place in
    let inside : i < cover.size = omega (arith, c.loop-place-test.true, c.size-place-end.ensures.size) in
    let member : MemberEntry = get_or members i none in
    let one_more : take i members ++ member ∷ [] ≡ take (i + 1) members =
    sym (rw add-one (take-suc members i none (within cover i (subst (λ n. n ≤ length cover.layer) c.size-place-end.ensures.size c.size-place-end.ensures.within) inside))) in
    let text : c.deref.result.now ≡ isotopologue_line c.args.shift member =
    c.deref.ensures.value ∙ (simp to_z-of_z at c.in_ok-write_member.ensures none)
    ∙ ap (isotopologue_line c.args.shift) (member_at cover i none inside) in
    simp to_z-of_z
    (subst (λ (ms : List MemberEntry). Puts (flat_map (isotopologue_line c.args.shift) ms) (g.O.Sink.written c.args.out.now)
    (g.O.Sink.written c.put_line.new.out) (g.O.Sink.faults c.args.out.now) (g.O.Sink.faults c.put_line.new.out) (Ok tt))
    one_more
    (line_put (isotopologue_line c.args.shift) (take i members) member c.deref.result.now _ _ _ _ _ _ text
    (simp to_z-of_z at c.loop-place.invariant) c.in_ok-put_line.ensures))

pub returns-in_err-write_member : goal.returns-in_err-write_member
returns-in_err-write_member g c =
    let fits : SFits w128 c.args.shift = c.ranges.shift in
    let given = err_from_is_err_and c.from_residual.result c.from_residual.ensures.1 in
    rw (given.1, given.2)
    (lines_memory (isotopologue_line c.args.shift) (take c.loop-place.place (cover_members c.args.cover.now))
    (drop c.loop-place.place (cover_members c.args.cover.now)) (cover_members c.args.cover.now) _ _ _ _
    (take-append-drop c.loop-place.place (cover_members c.args.cover.now)) (simp to_z-of_z at c.loop-place.invariant))

pub returns-in_err-put_line : goal.returns-in_err-put_line
returns-in_err-put_line g c =
    let fits : SFits w128 c.args.shift = c.ranges.shift in
    let cover = c.args.cover.now in
    let members : List MemberEntry = cover_members cover in
    let i = c.loop-place.place in
    let inside : i < cover.size = omega (arith, c.loop-place-test.true, c.size-place-end.ensures.size) in
    let member : MemberEntry = get_or members i none in
    let given = err_from_is_err_and c.from_residual-in_err-put_line.result c.from_residual-in_err-put_line.ensures.1 in
    let text : c.deref.result.now ≡ isotopologue_line c.args.shift member =
    c.deref.ensures.value ∙ (simp to_z-of_z at c.in_ok-write_member.ensures none)
    ∙ ap (isotopologue_line c.args.shift) (member_at cover i none inside) in
    let one_more : take i members ++ member ∷ [] ≡ take (i + 1) members =
    sym (rw add-one (take-suc members i none (within cover i (subst (λ n. n ≤ length cover.layer) c.size-place-end.ensures.size c.size-place-end.ensures.within) inside))) in
    let all : take i members ++ member ∷ drop (i + 1) members ≡ members =
    sym (append_assoc (take i members) (member ∷ []) (drop (i + 1) members))
    ∙ ap (λ (ms : List MemberEntry). ms ++ drop (i + 1) members) one_more
    ∙ take-append-drop (i + 1) members in
    rw (given.1, given.2)
    (subst (λ (ms : List MemberEntry). Puts (flat_map (isotopologue_line c.args.shift) ms) (g.O.Sink.written c.args.out.now)
    (g.O.Sink.written c.put_line.new.out) (g.O.Sink.faults c.args.out.now) (g.O.Sink.faults c.put_line.new.out)
    (Err c.in_err-put_line.field-0.0))
    all
    (line_not_put (isotopologue_line c.args.shift) (take i members) (drop (i + 1) members) member c.deref.result.now _ _ _ _ _ _ _ text
    (simp to_z-of_z at c.loop-place.invariant) c.in_err-put_line.ensures))

pub returns : goal.returns
returns g c =
    let fits : SFits w128 c.args.shift = c.ranges.shift in
    let cover = c.args.cover.now in
    let members : List MemberEntry = cover_members cover in
    let all : length members ≤ c.loop-place.place =
    rw (length-take-le cover.size cover.layer (subst (λ n. n ≤ length cover.layer) c.size-place-end.ensures.size c.size-place-end.ensures.within)) (omega (arith, c.loop-place-test.false, c.size-place-end.ensures.size)) in
    subst (λ (ms : List MemberEntry). Puts (flat_map (isotopologue_line c.args.shift) ms) (g.O.Sink.written c.args.out.now)
    (g.O.Sink.written c.loop-place.out) (g.O.Sink.faults c.args.out.now) (g.O.Sink.faults c.loop-place.out) (Ok tt))
    (take_all c.loop-place.place members all) (simp to_z-of_z at c.loop-place.invariant)

pub write_member-requires-clause-within : goal.write_member-requires-clause-within
write_member-requires-clause-within g c =
    omega (arith, c.loop-place-test.true, c.size-place-end.ensures.size, c.size-place-end.ensures.within)

pub write_member-requires-clause-printed : goal.write_member-requires-clause-printed
write_member-requires-clause-printed g c d =
    let fits : SFits w128 c.args.shift = c.ranges.shift in
    let cover = c.args.cover.now in
    let i = c.loop-place.place in
    let inside : i < cover.size = omega (arith, c.loop-place-test.true, c.size-place-end.ensures.size) in
    simp to_z-of_z (subst (IsPrintedWith c.args.shift) (sym (member_at cover i d inside))
    (c.requires i d (within cover i (subst (λ n. n ≤ length cover.layer) c.size-place-end.ensures.size c.size-place-end.ensures.within) inside)))
