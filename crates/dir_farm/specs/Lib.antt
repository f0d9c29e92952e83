pub mod DirFarm
pub mod DirFile
pub mod DirShelf
