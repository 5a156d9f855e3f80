pub mod SortedListLaws
