use Rattle.std.proofs.Common.{◌≡◌, ℕ, ◌+◌, ◌<◌, List, length, ◌++◌, ◌∷◌, [], take, drop, get_or, sym, ap, ◌∙◌, subst, arith}
use Rattle.std.specs.Prelude.{Ok, Err}
use Rattle.std.specs.List.{flat_map}
use Rattle.std.proofs.lemmas.List.{drop_more, take_all, take_more, take-append-drop}
use Rattle.std.proofs.lemmas.Result.{err_from_is_err_and}
use Rattle.candidates.specs.Lines.{line_at}
use Rattle.candidates.specs.Standings.{IsToken}
use Rattle.command_io.specs.Parts.{Puts}
use Rattle.decompose.proofs.FirstOfSlice.{written}
use Rattle.command_io.proofs.Puts.{puts_none}
use Rattle.command_io.proofs.PutLines.{line_not_put, line_put, lines_memory}
use Rattle.formula_reports.proofs.decomposition.put_kept.Goals as goal

pub returns-in_err-counts : goal.returns-in_err-counts
returns-in_err-counts g c =
    let given = err_from_is_err_and c.from_residual.result c.from_residual.ensures.1 in
    rw (given.1, given.2) (puts_none (flat_map (line_at c.args.premises.now c.args.mz) c.args.lists.now) _ _)

pub write_list-requires-clause-length : goal.write_list-requires-clause-length
write_list-requires-clause-length g c =
    let inside : c.loop-place.place < length c.args.lists.now = omega (arith, c.loop-place-test.true, c.len-place-end.ensures) in
    omega (
      arith,
      c.loop-place.invariant.room c.loop-place.place [] inside,
      ap (λ (l : List ℕ). length l) c.deref_mut.ensures.value,
    )

-- the room holds the list at the place
is-list : (list : List ℕ) (items now : List ℕ) (n : ℕ) → now ≡ take n (list ++ drop (length list) items) →
    n ≡ length items → length list ≡ length items → now ≡ list
is-list list items now n is all same = is ∙ written list items n all same

pub push_line-requires : goal.push_line-requires
push_line-requires g c =
    let inside : c.loop-place.place < length c.args.lists.now = omega (arith, c.loop-place-test.true, c.len-place-end.ensures) in
    let now =
    is-list c.write_list.new.counts c.loop-place.counts.items c.deref.result.now c.loop-place.counts.len
    c.deref.ensures.value c.loop-place.counts.ok.0 (c.write_list.auto.counts ∙ ap length c.deref_mut.ensures.value) in
    subst (IsToken c.args.premises.now) (sym (now ∙ c.write_list.ensures)) (c.requires.tokens c.loop-place.place [] inside)

pub returns-in_err-push_line : goal.returns-in_err-push_line
returns-in_err-push_line g c =
    let lists = c.args.lists.now in
    let given = err_from_is_err_and c.from_residual-in_err-push_line.result c.from_residual-in_err-push_line.ensures.1 in
    rw (given.1, given.2)
    (lines_memory (line_at c.args.premises.now c.args.mz) (take c.loop-place.place lists) (drop c.loop-place.place lists)
    lists _ _ _ _ (take-append-drop c.loop-place.place lists) c.loop-place.invariant.puts)

pub returns-in_err-put_line : goal.returns-in_err-put_line
returns-in_err-put_line g c =
    let lists = c.args.lists.now in
    let place = c.loop-place.place in
    let inside : place < length lists = omega (arith, c.loop-place-test.true, c.len-place-end.ensures) in
    let line = line_at c.args.premises.now c.args.mz in
    let counts : List ℕ = get_or lists place [] in
    let now =
    is-list c.write_list.new.counts c.loop-place.counts.items c.deref.result.now c.loop-place.counts.len
    c.deref.ensures.value c.loop-place.counts.ok.0 (c.write_list.auto.counts ∙ ap length c.deref_mut.ensures.value) in
    let text : c.deref-in-loop-place.result.now ≡ line counts =
    c.deref-in-loop-place.ensures.value ∙ c.in_ok-push_line.ensures.line
    ∙ ap (λ (t : List ℕ). t ++ line c.deref.result.now) c.clear.ensures.items ∙ ap line (now ∙ c.write_list.ensures) in
    let given = err_from_is_err_and c.from_residual-in_err-put_line.result c.from_residual-in_err-put_line.ensures.1 in
    rw (given.1, given.2)
    (subst (λ (ls : List (List ℕ)). Puts (flat_map line ls) (g.O.Sink.written c.args.out.now)
    (g.O.Sink.written c.put_line.new.out) (g.O.Sink.faults c.args.out.now) (g.O.Sink.faults c.put_line.new.out)
    (Err c.in_err-put_line.field-0.0))
    (ap (λ ls. take place lists ++ ls) (sym (drop_more lists place [] inside))
    ∙ take-append-drop place lists)
    (line_not_put line (take place lists) (drop (place + 1) lists) counts c.deref-in-loop-place.result.now
    _ _ _ _ _ _ _ text c.loop-place.invariant.puts c.in_err-put_line.ensures))

pub loop-place-preserved : goal.loop-place-preserved
loop-place-preserved g c =
    let lists = c.args.lists.now in
    let place = c.loop-place.place in
    let inside : place < length lists = omega (arith, c.loop-place-test.true, c.len-place-end.ensures) in
    let line = line_at c.args.premises.now c.args.mz in
    let counts : List ℕ = get_or lists place [] in
    let now =
    is-list c.write_list.new.counts c.loop-place.counts.items c.deref.result.now c.loop-place.counts.len
    c.deref.ensures.value c.loop-place.counts.ok.0 (c.write_list.auto.counts ∙ ap length c.deref_mut.ensures.value) in
    let text : c.deref-in-loop-place.result.now ≡ line counts =
    c.deref-in-loop-place.ensures.value ∙ c.in_ok-push_line.ensures.line
    ∙ ap (λ (t : List ℕ). t ++ line c.deref.result.now) c.clear.ensures.items ∙ ap line (now ∙ c.write_list.ensures) in
    record {
      puts = subst (λ (ls : List (List ℕ)). Puts (flat_map line ls) (g.O.Sink.written c.args.out.now)
          (g.O.Sink.written c.put_line.new.out) (g.O.Sink.faults c.args.out.now) (g.O.Sink.faults c.put_line.new.out) (Ok tt))
          (sym (take_more lists place [] inside))
          (line_put line (take place lists) counts c.deref-in-loop-place.result.now _ _ _ _ _ _ text c.loop-place.invariant.puts
          c.in_ok-put_line.ensures);
      room = λ k d within. c.loop-place.invariant.room k d within
          ∙ sym (c.write_list.auto.counts ∙ ap (λ (l : List ℕ). length l) c.deref_mut.ensures.value)
          ∙ sym (ap (λ (l : List ℕ). length l) now) ∙ ap (λ (l : List ℕ). length l) c.deref.ensures.value;
    }

pub returns : goal.returns
returns g c =
    let lists = c.args.lists.now in
    subst (λ (ls : List (List ℕ)). Puts (flat_map (line_at c.args.premises.now c.args.mz) ls)
    (g.O.Sink.written c.args.out.now) (g.O.Sink.written c.loop-place.out) (g.O.Sink.faults c.args.out.now)
    (g.O.Sink.faults c.loop-place.out) (Ok tt))
    (take_all c.loop-place.place lists (omega (arith, c.loop-place-test.false, c.len-place-end.ensures))) c.loop-place.invariant.puts
