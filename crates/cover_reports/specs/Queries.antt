-- What is asked of `envelope` and of `check`, read. A shift is in 10^-12 Da.
use Rattle.std.specs.Prelude.{ℕ, ℤ, List}
use Rattle.element_table.specs.Elements.{TableEntries}
use Rattle.written_items.specs.declared.item.Item.{Item}
use Rattle.certificate_text.specs.Certificates.{CertificateEntries}

-- the cover of an ion for a coverage in 10^-18, to each mass of which a shift is added
pub record CoverQuery : Type 0 where
  pub table : TableEntries
  pub ion : List (Item × ℕ)
  pub shift : ℤ
  pub coverage : ℕ

-- a certificate that is to be checked by a table
pub record CheckQuery : Type 0 where
  pub table : TableEntries
  pub certificate : CertificateEntries
