use Rattle.std.proofs.Common.{Bor, List, ℕ, ◌∙◌, sym, refl, inl, inr, map, Some, ◌∷◌, []}
use Rattle.std.proofs.lemmas.List.{map-append}
use Rattle.csv.specs.Reading.{Reached, default_config, strip_bom}
use Rattle.csv.specs.Records.{fields_of}
use Rattle.csv.specs.declared.parser.State.TheVariants as st
use Rattle.csv.proofs.ReadFacts.{rows-end, rows-more}
use Rattle.csv_records.proofs.AllRecords.{records-whole}
use Rattle.csv_records.proofs.ReadErrors.{no_other_error}
use Rattle.csv_records.proofs.rows_of.Goals as goal

pub loop-row-init : goal.loop-row-init
unfolding Reached
loop-row-init c =
    let fr = c.from_reader-reader.ensures in
    let e = c.has_headers.ensures in
    let f = c.flexible.ensures in
    let start = c.into_iter-row-iterator.ensures.into_iter_gives ∙ refl in
    let rdr = c.into_byte_records-row-items.ensures.rdr in
    rw (start, rdr, c.new-rows.ensures.items) (record {
      untrimmed = rw (f, e) at fr.trim ∙ c.new.ensures.trim;
      ready = inr (inr (rw (f, e) at fr.has_headers, fr.headers));
      left = c.into_byte_records-row-items.ensures.left;
      flexible = rw f at fr.flexible;
      config = rw (f, e) at fr.config ∙ c.new.ensures.config;
      reached = (strip_bom c.args.bytes.now, fr.source, (sym fr.state, refl));
    })

pub loop-row-preserved : goal.loop-row-preserved
loop-row-preserved c =
    let inv = c.loop-row.invariant in
    let steps = c.next.ensures.steps inv.left inv.untrimmed in
    let s = rw (c.in-Some.is, c.in-Ok.is) at (steps.0 inv.ready) in
    let as_before = rw (c.in-Some.is, c.in-Ok.is) at steps.3 in
    let m = rows-more (λ (s : Bor (List ℕ)). Some s.now) c.loop-row.row-iterator.rdr c.next.new.self.rdr
    (fields_of c.in-Ok.row) default_config st.StartRecord (strip_bom c.args.bytes.now) inv.reached.0
    (map fields_of c.loop-row.rows.items) inv.config inv.reached.1 inv.reached.2 s.0 in
    record {
      untrimmed = s.0.3 ∙ inv.untrimmed;
      ready = inl s.1;
      left = s.2;
      flexible = as_before ∙ inv.flexible;
      config = s.0.2 ∙ inv.config;
      reached = (
        m.0,
        m.1,
        rw
            (c.in_ok-push-in-Ok.ensures.items, map-append fields_of c.loop-row.rows.items (c.in-Ok.row ∷ [])) m.2,
      );
    }

pub returns : goal.returns
returns c =
    let inv = c.loop-row.invariant in
    let s = rw c.in-None.is at ((c.next.ensures.steps inv.left inv.untrimmed).0 inv.ready) in
    records-whole default_config c.loop-row.row-iterator.rdr.state (strip_bom c.args.bytes.now) inv.reached.0
    (map fields_of c.loop-row.rows.items) inv.reached.2
    (rows-end (λ (s : Bor (List ℕ)). Some s.now) c.loop-row.row-iterator.rdr c.next.new.self.rdr [] default_config
    inv.reached.0 inv.config inv.reached.1 s)

pub unreachable-requires : goal.unreachable-requires
unreachable-requires c =
    let inv = c.loop-row.invariant in
    let why = rw (c.in-Some.is, c.in-Err.is) at ((c.next.ensures.steps inv.left inv.untrimmed).0 inv.ready) in
    no_other_error (λ (s : Bor (List ℕ)). Some s.now) c.loop-row.row-iterator.rdr c.next.new.self.rdr
    c.in-Err.fault.kind inv.flexible why
    (λ is. c.in_default.not-OutOfMemory (c.into_kind.ensures ∙ is))
    (λ e is. c.in_default.not-Io e (c.into_kind.ensures ∙ is))
