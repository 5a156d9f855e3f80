pub mod PeakLists
