use Rattle.std.proofs.Common.{◌≡◌, ◌+◌, ◌++◌, [], ℕ, Bool, List, length, take, drop, true, false, sym, ap, ◌∙◌, arith}
use Rattle.std.specs.Prelude.{nat_lt, sum_by}
use Rattle.certificate_text.specs.CertificateLines.{cover_word, end_line, layer_word}
use Rattle.certificate_text.specs.WrittenCertificates.{ended, written_text}
use Rattle.cover_certificate.specs.FormulaCovers.{MemberEntry}
use Rattle.cover_certificate.specs.CoverCertificates.{certificate_of_cover, max_length}
use Rattle.cover_certificate.proofs.WrittenCovers.{fits, member_lines, read-again, too-long, written}
use Rattle.cover_certificate.proofs.certificate.write_certificate.Goals as goal
use Rattle.cover_certificate.proofs.certificate.write_certificate.Goals.{In_ok-push_line}

pub returns-then-is_too_long-clause-text : goal.returns-then-is_too_long-clause-text
returns-then-is_too_long-clause-text c =
    let cover = c.args.cover.now in
    let size : c.len.result ≡ length c.in_ok-text.text.items = omega (arith, c.len.ensures) in
    let long : nat_lt max_length (c.len.result + sum_by (λ (m : MemberEntry). length m.text + 7) cover.layer + 4)
    ≡ true =
    ap (λ layer. nat_lt max_length (c.len.result + sum_by (λ (m : MemberEntry). length m.text + 7) layer + 4))
    (sym c.layer.ensures)
    ∙ sym c.is_too_long.ensures ∙ c.if-is_too_long.true in
    too-long cover c.in_ok-text.text.items c.len.result c.in_ok-text.ensures.text size long

-- the text from the front
spelled : (c : In_ok-push_line) → c.push_line.new.text.items
    ≡ ((c.in_ok-text.text.items ++ member_lines cover_word (take c.args.cover.now.size c.args.cover.now.layer))
    ++ member_lines layer_word (drop c.args.cover.now.size c.args.cover.now.layer)) ++ ended (end_line ++ [])
spelled c =
    let layer = c.args.cover.now.layer in
    let front : c.split_at.result.0.now ≡ take c.args.cover.now.size layer =
    c.split_at.ensures.front ∙ ap (take c.size.result) c.layer-2.ensures
    ∙ ap (λ (n : ℕ). take n layer) c.size.ensures.size in
    let back : c.split_at.result.1.now ≡ drop c.args.cover.now.size layer =
    c.split_at.ensures.back ∙ ap (drop c.size.result) c.layer-2.ensures
    ∙ ap (λ (n : ℕ). drop n layer) c.size.ensures.size in
    c.in_ok-push_line.ensures
    ∙ ap (λ (t : List ℕ). t ++ ended (end_line ++ [])) (c.in_ok-push_members-2.ensures
    ∙ ap (λ (t : List ℕ). t ++ member_lines layer_word c.split_at.result.1.now) (c.in_ok-push_members.ensures
    ∙ ap (λ ms. c.in_ok-text.text.items ++ member_lines cover_word ms) front)
    ∙ ap (λ ms. (c.in_ok-text.text.items ++ member_lines cover_word (take c.args.cover.now.size layer)) ++
    member_lines layer_word ms)
    back)

whole : (c : In_ok-push_line) → c.push_line.new.text.items ≡ written_text (certificate_of_cover c.args.cover.now)
whole c =
    let size : c.len.result ≡ length c.in_ok-text.text.items = omega (arith, c.len.ensures) in
    written c.args.cover.now c.in_ok-text.text.items c.len.result c.in_ok-text.ensures.text size
    c.push_line.new.text.items
    (spelled c)

pub returns-clause-text : goal.returns-clause-text
returns-clause-text c =
    let cover = c.args.cover.now in
    let size : c.len.result ≡ length c.in_ok-text.text.items = omega (arith, c.len.ensures) in
    let short : nat_lt max_length (c.len.result + sum_by (λ (m : MemberEntry). length m.text + 7) cover.layer + 4)
    ≡ false =
    ap (λ layer. nat_lt max_length (c.len.result + sum_by (λ (m : MemberEntry). length m.text + 7) layer + 4))
    (sym c.layer.ensures)
    ∙ sym c.is_too_long.ensures ∙ c.if-is_too_long.false in
    fits cover c.in_ok-text.text.items c.len.result c.in_ok-text.ensures.text size c.push_line.new.text.items
    (whole c) short

pub returns-clause-read_back : goal.returns-clause-read_back
returns-clause-read_back c =
    read-again c.args.cover.now c.push_line.new.text.items (whole c) c.in_ok-text.ensures.formula
